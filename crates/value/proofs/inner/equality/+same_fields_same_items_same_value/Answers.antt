use Rattle.value.proofs.SameValues.{same_literal, kinds_differ, counts_differ, ask_items, same_array, ask_fields, same_object, pairing_start, pairing_left_fits, pairing_right_fits, pairing_ask, pairing_below, pairing_fails, pairing_on, pairing_ends, by_key_start, by_key_object, by_key_twice, by_key_place, by_key_value, by_key_missing, by_key_ask, by_key_below, by_key_fails, by_key_on, by_key_ends, child_falls, parts_fall}
use borrow.Author.Rules.{rules}
use Rattle.value.proofs.inner.equality.+same_fields_same_items_same_value.Goals as goal

pub same_fields-loop-i-init : goal.same_fields-loop-i-init
same_fields-loop-i-init t c = search (by_key_start, rules)

pub same_fields-overflow_mul-place : goal.same_fields-overflow_mul-place
same_fields-overflow_mul-place t c = search (by_key_twice, rules)

pub same_fields-overflow_add-place : goal.same_fields-overflow_add-place
same_fields-overflow_add-place t c = search (by_key_place, rules)

pub same_fields-overflow_add-place-in-loop-i : goal.same_fields-overflow_add-place-in-loop-i
same_fields-overflow_add-place-in-loop-i t c = search (by_key_value, rules)

pub same_fields-value_under-requires : goal.same_fields-value_under-requires
same_fields-value_under-requires t c = search (by_key_object, rules)

pub same_fields-returns-in_default : goal.same_fields-returns-in_default
same_fields-returns-in_default t c = search (by_key_missing, rules)

pub same_fields-same_value-requires : goal.same_fields-same_value-requires
same_fields-same_value-requires t c = (child_falls (by_key_below c.loop-i.invariant c.loop-i-test.true c.child_at-value.ensures) c.decreases, by_key_ask c.loop-i.invariant c.loop-i-test.true c.child_at-key.ensures c.child_at-value.ensures c.value_under.ensures c.in-Some.is)

pub same_fields-returns-then-not-same_value : goal.same_fields-returns-then-not-same_value
same_fields-returns-then-not-same_value t c = search (by_key_fails, rules)

pub same_fields-loop-i-preserved : goal.same_fields-loop-i-preserved
same_fields-loop-i-preserved t c = by_key_on c.loop-i.invariant c.loop-i-test.true c.child_at-key.ensures c.child_at-value.ensures c.value_under.ensures c.in-Some.is c.same_value.ensures c.if-not-same_value.false-raw

pub same_fields-returns : goal.same_fields-returns
same_fields-returns t c = search (by_key_ends, rules)

pub same_items-loop-i-init : goal.same_items-loop-i-init
same_items-loop-i-init t c = search (pairing_start, rules)

pub same_items-overflow_add-at : goal.same_items-overflow_add-at
same_items-overflow_add-at t c = search (pairing_left_fits, rules)

pub same_items-overflow_add-from : goal.same_items-overflow_add-from
same_items-overflow_add-from t c = search (pairing_right_fits, rules)

pub same_items-same_value-requires : goal.same_items-same_value-requires
same_items-same_value-requires t c = (search (child_falls, pairing_below, rules), search (pairing_ask, rules))

pub same_items-returns-then-not-same_value : goal.same_items-returns-then-not-same_value
same_items-returns-then-not-same_value t c = search (pairing_fails, rules)

pub same_items-loop-i-preserved : goal.same_items-loop-i-preserved
same_items-loop-i-preserved t c = search (pairing_on, rules)

pub same_items-returns : goal.same_items-returns
same_items-returns t c = search (pairing_ends, rules)

pub same_value-returns-then-kind-le-LAST_LITERAL : goal.same_value-returns-then-kind-le-LAST_LITERAL
same_value-returns-then-kind-le-LAST_LITERAL t c = search (same_literal, rules)

pub same_value-returns-then-kind_of-kind : goal.same_value-returns-then-kind_of-kind
same_value-returns-then-kind_of-kind t c = search (kinds_differ, rules)

pub same_value-returns-then-count_of-count : goal.same_value-returns-then-count_of-count
same_value-returns-then-count_of-count t c = search (counts_differ, rules)

pub same_value-same_items-requires : goal.same_value-same_items-requires
same_value-same_items-requires t c = (parts_fall c.requires c.decreases, ask_items _ _ _ c.requires c.kind_of-kind.ensures c.if-kind-le-LAST_LITERAL.false c.kind_of.ensures c.if-kind_of-kind.false c.count_of-count.ensures c.count_of.ensures c.if-count_of-count.false c.if-kind-eq-ARRAY.true c.first_of-at.ensures c.first_of-from.ensures)

pub same_value-returns-then-kind-eq-ARRAY : goal.same_value-returns-then-kind-eq-ARRAY
same_value-returns-then-kind-eq-ARRAY t c = search (same_array, rules)

pub same_value-same_fields-requires : goal.same_value-same_fields-requires
same_value-same_fields-requires t c = (parts_fall c.requires c.decreases, ask_fields _ _ _ c.requires c.kind_of-kind.ensures c.if-kind-le-LAST_LITERAL.false c.kind_of.ensures c.if-kind_of-kind.false c.count_of-count.ensures c.count_of.ensures c.if-count_of-count.false c.if-kind-eq-ARRAY.false)

pub same_value-returns : goal.same_value-returns
same_value-returns t c = search (same_object, rules)
