use Rattle.planner.proofs.fields.FieldLoops.{total_fits, ask_find, found_place, added_computed, added_equal, added_new}
use borrow.Author.Rules.{rules}
use Rattle.planner.proofs.inner.fields.add_field.Goals as goal

pub overflow_add-result : goal.overflow_add-result
overflow_add-result c = search (total_fits, rules)

pub returns-in_default : goal.returns-in_default
returns-in_default c = search (added_computed, rules)

pub find_field-requires : goal.find_field-requires
find_field-requires c = search (ask_find, rules)

pub bounds-order-place : goal.bounds-order-place
bounds-order-place c = search (found_place, rules)

pub returns-in-Ok : goal.returns-in-Ok
returns-in-Ok c = search (added_equal, rules)

pub returns-in-Err : goal.returns-in-Err
returns-in-Err c = search (added_new, rules)
