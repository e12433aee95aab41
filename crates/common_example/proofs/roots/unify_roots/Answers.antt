use Rattle.common_example.proofs.loops.classes.RootLoops.{roots_pair, roots_close, roots_unified}
use borrow.Author.Rules.{rules}
use Rattle.common_example.proofs.roots.unify_roots.Goals as goal

pub join_pair-requires : goal.join_pair-requires
join_pair-requires c = search (roots_pair, rules)

pub close_classes-requires : goal.close_classes-requires
close_classes-requires c = search (roots_close, rules)

pub returns : goal.returns
returns c = search (roots_unified, rules)
