use Rattle.planner.proofs.Left.{some_left, none_left, one_less, two_on}
use Rattle.value.proofs.Marking.{fields_start, field_low, field_place, field_computed, field_marked, field_unmarked, field_value_fits, field_fits, fields_end}
use borrow.Author.Rules.{rules}
use Rattle.value.proofs.inner.admitted.fields_marked.Goals as goal

pub loop-i-init : goal.loop-i-init
loop-i-init c = search (fields_start, rules)

pub returns-then-kind_of-gt-LAST_LITERAL : goal.returns-then-kind_of-gt-LAST_LITERAL
returns-then-kind_of-gt-LAST_LITERAL c = search (field_computed, some_left, rules)

pub overflow_mul-place : goal.overflow_mul-place
overflow_mul-place c = search (field_fits, some_left, rules)

pub overflow_add-place-in-loop-i : goal.overflow_add-place-in-loop-i
overflow_add-place-in-loop-i c = search (field_value_fits, some_left, rules)

pub overflow_sub-value : goal.overflow_sub-value
overflow_sub-value c = search (field_low, some_left, rules)

pub bounds-marks-value : goal.bounds-marks-value
bounds-marks-value c = search (field_place, some_left, rules)

pub returns-then-marks-value-ne1 : goal.returns-then-marks-value-ne1
returns-then-marks-value-ne1 c = search (field_unmarked, some_left, rules)

pub overflow_add-place : goal.overflow_add-place
overflow_add-place c = search (field_fits, some_left, rules)

pub loop-i-preserved : goal.loop-i-preserved
loop-i-preserved c = search (field_marked, some_left, one_less, two_on, rules)

pub returns : goal.returns
returns c = search (fields_end, none_left, rules)
