use Rattle.tolerance.proofs.nodes.MeetNodes.{ask_literal, met_literal, ask_name, met_name, name_falls, met_kinds, met_counts, ask_items, met_array, ask_fields, met_object, name_low, place_inside, wild_met, name_bound, ask_held, held_falls, held_met, items_start, items_left_fits, items_right_fits, items_ask, items_below, items_fail, items_on, items_end, fields_start, fields_object, fields_twice, fields_place, fields_value, fields_fall, fields_missing, fields_ask, fields_fail, fields_on, fields_end, child_falls, parts_fall}
use borrow.Author.Rules.{rules}
use Rattle.tolerance.proofs.meeting.+meet_meet_fields_meet_items_meet_name.Goals as goal

pub meet-meet_literals-requires : goal.meet-meet_literals-requires
meet-meet_literals-requires t c = search (ask_literal, rules)

pub meet-returns-then-kind-le-LAST_LITERAL : goal.meet-returns-then-kind-le-LAST_LITERAL
meet-returns-then-kind-le-LAST_LITERAL t c = search (met_literal, rules)

pub meet-meet_name-requires : goal.meet-meet_name-requires
meet-meet_name-requires t c = (search (name_falls, rules), search (ask_name, rules))

pub meet-returns-then-kind-eq-NAME : goal.meet-returns-then-kind-eq-NAME
meet-returns-then-kind-eq-NAME t c = search (met_name, rules)

pub meet-returns-then-kind_of-kind : goal.meet-returns-then-kind_of-kind
meet-returns-then-kind_of-kind t c = search (met_kinds, rules)

pub meet-returns-then-count_of : goal.meet-returns-then-count_of
meet-returns-then-count_of t c = search (met_counts, rules)

pub meet-meet_items-requires : goal.meet-meet_items-requires
meet-meet_items-requires t c = (parts_fall c.requires c.decreases, ask_items c.requires c.kind_of-kind.ensures c.if-kind-le-LAST_LITERAL.false c.if-kind-eq-NAME.false c.kind_of.ensures c.if-kind_of-kind.false c.count_of-2.ensures c.count_of.ensures c.if-count_of.false c.if-kind-eq-ARRAY.true)

pub meet-returns-then-kind-eq-ARRAY : goal.meet-returns-then-kind-eq-ARRAY
meet-returns-then-kind-eq-ARRAY t c = search (met_array, rules)

pub meet-meet_fields-requires : goal.meet-meet_fields-requires
meet-meet_fields-requires t c = (parts_fall c.requires c.decreases, ask_fields c.requires c.kind_of-kind.ensures c.if-kind-le-LAST_LITERAL.false c.if-kind-eq-NAME.false c.kind_of.ensures c.if-kind_of-kind.false c.count_of-2.ensures c.count_of.ensures c.if-count_of.false c.if-kind-eq-ARRAY.false)

pub meet-returns : goal.meet-returns
meet-returns t c = search (met_object, rules)

pub meet_fields-loop-i-init : goal.meet_fields-loop-i-init
meet_fields-loop-i-init t c = search (fields_start, rules)

pub meet_fields-overflow_mul-place : goal.meet_fields-overflow_mul-place
meet_fields-overflow_mul-place t c = search (fields_twice, rules)

pub meet_fields-overflow_add-place : goal.meet_fields-overflow_add-place
meet_fields-overflow_add-place t c = search (fields_place, rules)

pub meet_fields-overflow_add-place-in-loop-i : goal.meet_fields-overflow_add-place-in-loop-i
meet_fields-overflow_add-place-in-loop-i t c = search (fields_value, rules)

pub meet_fields-value_under-requires : goal.meet_fields-value_under-requires
meet_fields-value_under-requires t c = search (fields_object, rules)

pub meet_fields-returns-in_default : goal.meet_fields-returns-in_default
meet_fields-returns-in_default t c = search (fields_missing, rules)

pub meet_fields-meet-requires : goal.meet_fields-meet-requires
meet_fields-meet-requires t c = (fields_fall c.loop-i.invariant c.loop-i-test.true c.child_at-value.ensures c.decreases, fields_ask c.loop-i.invariant c.loop-i-test.true c.child_at-key.ensures c.child_at-value.ensures c.value_under.ensures c.in-Some.is)

pub meet_fields-returns-then-not-meet : goal.meet_fields-returns-then-not-meet
meet_fields-returns-then-not-meet t c = search (fields_fail, rules)

pub meet_fields-loop-i-preserved : goal.meet_fields-loop-i-preserved
meet_fields-loop-i-preserved t c = fields_on c.loop-i.invariant c.loop-i-test.true c.child_at-key.ensures c.child_at-value.ensures c.value_under.ensures c.in-Some.is c.meet.ensures c.if-not-meet.false-raw

pub meet_fields-returns : goal.meet_fields-returns
meet_fields-returns t c = search (fields_end, rules)

pub meet_items-loop-i-init : goal.meet_items-loop-i-init
meet_items-loop-i-init t c = search (items_start, rules)

pub meet_items-overflow_add-at : goal.meet_items-overflow_add-at
meet_items-overflow_add-at t c = search (items_left_fits, rules)

pub meet_items-overflow_add-from : goal.meet_items-overflow_add-from
meet_items-overflow_add-from t c = search (items_right_fits, rules)

pub meet_items-meet-requires : goal.meet_items-meet-requires
meet_items-meet-requires t c = (search (child_falls, items_below, rules), search (items_ask, rules))

pub meet_items-returns-then-not-meet : goal.meet_items-returns-then-not-meet
meet_items-returns-then-not-meet t c = search (items_fail, rules)

pub meet_items-loop-i-preserved : goal.meet_items-loop-i-preserved
meet_items-loop-i-preserved t c = items_on c.loop-i.invariant c.loop-i-test.true c.child_at-item.ensures c.child_at-other.ensures c.meet.ensures c.if-not-meet.false-raw

pub meet_items-returns : goal.meet_items-returns
meet_items-returns t c = search (items_end, rules)

pub meet_name-returns-then-is_wildcard : goal.meet_name-returns-then-is_wildcard
meet_name-returns-then-is_wildcard t c = search (wild_met, rules)

pub meet_name-overflow_sub-place : goal.meet_name-overflow_sub-place
meet_name-overflow_sub-place t c = search (name_low, rules)

pub meet_name-bounds-list-place : goal.meet_name-bounds-list-place
meet_name-bounds-list-place t c = search (place_inside, rules)

pub meet_name-bounds-list-place-then-held-eq0 : goal.meet_name-bounds-list-place-then-held-eq0
meet_name-bounds-list-place-then-held-eq0 t c = search (place_inside, rules)

pub meet_name-returns-then-held-eq0 : goal.meet_name-returns-then-held-eq0
meet_name-returns-then-held-eq0 t c = search (name_bound, rules)

pub meet_name-meet-requires : goal.meet_name-meet-requires
meet_name-meet-requires t c = (search (held_falls, rules), search (ask_held, rules))

pub meet_name-returns : goal.meet_name-returns
meet_name-returns t c = search (held_met, rules)
