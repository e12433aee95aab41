use Rattle.table.proofs.trees.Deepest.{deepening_start, deepening_on, deepening_ends, child_low, child_high}
use borrow.Author.Rules.{rules}
use Rattle.table.proofs.inner.depth.deepest_of.Goals as goal

pub loop-i-init : goal.loop-i-init
loop-i-init c = search (deepening_start, rules)

pub overflow_sub-child : goal.overflow_sub-child
overflow_sub-child c = search (child_low, rules)

pub bounds-depths-child : goal.bounds-depths-child
bounds-depths-child c = search (child_high, rules)

pub loop-i-preserved : goal.loop-i-preserved
loop-i-preserved c = search (deepening_on, rules)

pub returns : goal.returns
returns c = search (deepening_ends, rules)
