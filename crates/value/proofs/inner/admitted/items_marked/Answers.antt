use Rattle.planner.proofs.Left.{some_left, none_left, one_less}
use Rattle.value.proofs.Marking.{items_start, items_fit, item_low, item_place, item_marked, item_unmarked, items_end}
use borrow.Author.Rules.{rules}
use Rattle.value.proofs.inner.admitted.items_marked.Goals as goal

pub loop-place-init : goal.loop-place-init
loop-place-init c = search (items_start, rules)

pub overflow_add-place-end : goal.overflow_add-place-end
overflow_add-place-end c = search (items_fit, rules)

pub overflow_sub-child : goal.overflow_sub-child
overflow_sub-child c = search (item_low, some_left, rules)

pub bounds-marks-child : goal.bounds-marks-child
bounds-marks-child c = search (item_place, some_left, rules)

pub returns-then-marks-child-ne1 : goal.returns-then-marks-child-ne1
returns-then-marks-child-ne1 c = search (item_unmarked, some_left, rules)

pub loop-place-preserved : goal.loop-place-preserved
loop-place-preserved c = search (item_marked, some_left, one_less, rules)

pub returns : goal.returns
returns c = search (items_end, none_left, rules)
