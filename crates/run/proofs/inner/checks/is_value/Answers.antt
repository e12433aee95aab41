use Rattle.run.proofs.Checking.{marked_low, marked_place, value_told, value_outside}
use borrow.Author.Rules.{rules}
use Rattle.run.proofs.inner.checks.is_value.Goals as goal

pub overflow_sub-result : goal.overflow_sub-result
overflow_sub-result c = search (marked_low, rules)

pub bounds-marks-node : goal.bounds-marks-node
bounds-marks-node c = search (marked_place, rules)

pub returns-then-is_node : goal.returns-then-is_node
returns-then-is_node c = search (value_told, rules)

pub returns : goal.returns
returns c = search (value_outside, rules)
