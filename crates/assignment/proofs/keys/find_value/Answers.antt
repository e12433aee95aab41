use Rattle.assignment.proofs.keys.KeySearch.{value_computed, value_asks, value_twice, value_key, value_place, value_found, value_absent}
use borrow.Author.Rules.{rules}
use Rattle.assignment.proofs.keys.find_value.Goals as goal

pub returns-in_default : goal.returns-in_default
returns-in_default c = search (value_computed, rules)

pub find_field-requires : goal.find_field-requires
find_field-requires c = search (value_asks, rules)

pub overflow_mul-field_at : goal.overflow_mul-field_at
overflow_mul-field_at c = search (value_twice, rules)

pub overflow_add-first : goal.overflow_add-first
overflow_add-first c = search (value_key, rules)

pub overflow_add-first-in-Ok : goal.overflow_add-first-in-Ok
overflow_add-first-in-Ok c = search (value_place, rules)

pub returns-in-Ok : goal.returns-in-Ok
returns-in-Ok c = search (value_found, rules)

pub returns-in-Err : goal.returns-in-Err
returns-in-Err c = search (value_absent, rules)
