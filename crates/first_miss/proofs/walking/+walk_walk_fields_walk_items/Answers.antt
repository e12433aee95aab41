use Rattle.first_miss.proofs.nodes.WalkNodes.{ask_literal, came_literal, ask_name, array_misses, ask_items, came_array, ask_object, object_misses, ask_fields, came_object, parts_fall}
use Rattle.first_miss.proofs.nodes.WalkParts.{items_start, items_left_fits, items_right_fits, items_ask, items_fall, items_fail, items_on, items_end, fields_start, fields_object, fields_twice, fields_place, fields_value, fields_fall, fields_some, fields_ask, fields_fail, fields_on, fields_end}
use borrow.Author.Rules.{rules}
use Rattle.first_miss.proofs.walking.+walk_walk_fields_walk_items.Goals as goal

pub walk-walk_literal-requires : goal.walk-walk_literal-requires
walk-walk_literal-requires t c = search (ask_literal, rules)

pub walk-returns-then-kind-le-LAST_LITERAL : goal.walk-returns-then-kind-le-LAST_LITERAL
walk-returns-then-kind-le-LAST_LITERAL t c = search (came_literal, rules)

pub walk-walk_name-requires : goal.walk-walk_name-requires
walk-walk_name-requires t c = search (ask_name, rules)

pub walk-returns-in_err-walk_array : goal.walk-returns-in_err-walk_array
walk-returns-in_err-walk_array t c = search (array_misses, rules)

pub walk-walk_items-requires : goal.walk-walk_items-requires
walk-walk_items-requires t c = (search (parts_fall, rules), search (ask_items, rules))

pub walk-returns-then-kind-eq-ARRAY : goal.walk-returns-then-kind-eq-ARRAY
walk-returns-then-kind-eq-ARRAY t c = search (came_array, rules)

pub walk-walk_object-requires : goal.walk-walk_object-requires
walk-walk_object-requires t c = search (ask_object, rules)

pub walk-returns-in_err-walk_object : goal.walk-returns-in_err-walk_object
walk-returns-in_err-walk_object t c = search (object_misses, rules)

pub walk-walk_fields-requires : goal.walk-walk_fields-requires
walk-walk_fields-requires t c = (search (parts_fall, rules), ask_fields c.requires c.kind_of-kind.ensures c.if-kind-le-LAST_LITERAL.false c.if-kind-eq-NAME.false c.if-kind-eq-ARRAY.false c.walk_object.ensures c.in_ok-walk_object.was)

pub walk-returns : goal.walk-returns
walk-returns t c = search (came_object, rules)

pub walk_fields-loop-i-init : goal.walk_fields-loop-i-init
walk_fields-loop-i-init t c = search (fields_start, rules)

pub walk_fields-overflow_mul-place : goal.walk_fields-overflow_mul-place
walk_fields-overflow_mul-place t c = search (fields_twice, rules)

pub walk_fields-overflow_add-place : goal.walk_fields-overflow_add-place
walk_fields-overflow_add-place t c = search (fields_place, rules)

pub walk_fields-overflow_add-place-in-loop-i : goal.walk_fields-overflow_add-place-in-loop-i
walk_fields-overflow_add-place-in-loop-i t c = search (fields_value, rules)

pub walk_fields-value_under-requires : goal.walk_fields-value_under-requires
walk_fields-value_under-requires t c = search (fields_object, rules)

pub walk_fields-unwrap-part-requires : goal.walk_fields-unwrap-part-requires
walk_fields-unwrap-part-requires t c = fields_some c.loop-i.invariant c.loop-i-test.true c.child_at-key.ensures c.child_at-value.ensures c.value_under.ensures

pub walk_fields-walk-requires : goal.walk_fields-walk-requires
walk_fields-walk-requires t c = (fields_fall c.loop-i.invariant c.loop-i-test.true c.child_at-value.ensures c.decreases, fields_ask c.loop-i.invariant c.loop-i-test.true c.child_at-key.ensures c.child_at-value.ensures c.value_under.ensures c.unwrap-part.ensures)

pub walk_fields-returns-in_err-walk : goal.walk_fields-returns-in_err-walk
walk_fields-returns-in_err-walk t c = search (fields_fail c.loop-i.invariant c.loop-i-test.true c.child_at-key.ensures c.child_at-value.ensures c.value_under.ensures c.unwrap-part.ensures c.walk.ensures, rules)

pub walk_fields-loop-i-preserved : goal.walk_fields-loop-i-preserved
walk_fields-loop-i-preserved t c = fields_on c.loop-i.invariant c.loop-i-test.true c.child_at-key.ensures c.child_at-value.ensures c.value_under.ensures c.unwrap-part.ensures c.walk.ensures c.in_ok-walk.was

pub walk_fields-returns : goal.walk_fields-returns
walk_fields-returns t c = search (fields_end, rules)

pub walk_items-loop-i-init : goal.walk_items-loop-i-init
walk_items-loop-i-init t c = search (items_start, rules)

pub walk_items-overflow_add-at : goal.walk_items-overflow_add-at
walk_items-overflow_add-at t c = search (items_left_fits, rules)

pub walk_items-overflow_add-from : goal.walk_items-overflow_add-from
walk_items-overflow_add-from t c = search (items_right_fits, rules)

pub walk_items-walk-requires : goal.walk_items-walk-requires
walk_items-walk-requires t c = (items_fall c.loop-i.invariant c.loop-i-test.true c.child_at-item.ensures c.child_at-part.ensures c.decreases, items_ask c.loop-i.invariant c.loop-i-test.true c.child_at-item.ensures c.child_at-part.ensures)

pub walk_items-returns-in_err-walk : goal.walk_items-returns-in_err-walk
walk_items-returns-in_err-walk t c = search (items_fail c.loop-i.invariant c.loop-i-test.true c.child_at-item.ensures c.child_at-part.ensures c.walk.ensures, rules)

pub walk_items-loop-i-preserved : goal.walk_items-loop-i-preserved
walk_items-loop-i-preserved t c = items_on c.loop-i.invariant c.loop-i-test.true c.child_at-item.ensures c.child_at-part.ensures c.walk.ensures c.in_ok-walk.was

pub walk_items-returns : goal.walk_items-returns
walk_items-returns t c = search (items_end, rules)
