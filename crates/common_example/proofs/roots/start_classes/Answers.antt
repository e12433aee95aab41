use Rattle.common_example.proofs.loops.graph.GraphLoops.{fill_start, fill_on, fill_ends}
use borrow.Author.Rules.{rules}
use Rattle.common_example.proofs.roots.start_classes.Goals as goal

pub loop-place-init : goal.loop-place-init
loop-place-init c = search (fill_start, rules)

pub loop-place-preserved : goal.loop-place-preserved
loop-place-preserved c = search (fill_on, rules)

pub returns : goal.returns
returns c = search (fill_ends, rules)
