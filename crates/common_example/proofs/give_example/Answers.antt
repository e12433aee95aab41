use Rattle.common_example.proofs.arrays.Common.{write_asks, no_classes, joined_ends}
use borrow.Author.Rules.{rules}
use Rattle.common_example.proofs.give_example.Goals as goal

pub returns-then-not-unified : goal.returns-then-not-unified
returns-then-not-unified c = search (no_classes, rules)

pub write_joined-requires : goal.write_joined-requires
write_joined-requires c = search (write_asks c.requires c.unify_patterns-unified.ensures, rules)

pub returns : goal.returns
returns c = search (joined_ends c.requires c.unify_patterns-unified.ensures, rules)
