use Rattle.planner.proofs.destructuring.SecondPass.{next_fits, lay_fits, object_room, object_counted, name_counted, items_room, array_counted, plain_counted, counting_items, item_room, item_counted, items_counted, fields_counting, field_room, field_counted, fields_counted, object_next_fits, ask_object, ask_name, laid_name, ask_items, laid_array, laid_plain, laying_start, laying_child, laying_below, laying_on, laying_long, laying_fits, laying_position, laying_ends, ordering_start, ordering_long, ordering_place, ordering_key, ordering_next, ordering_position, ordering_value, ordering_child, ordering_below, ordering_on, ordering_ends, object_falls, items_fall, fields_fall, child_falls}
use Rattle.planner.proofs.Left.{some_left, none_left, one_less, one_on}
use Rattle.planner.proofs.fields.Objects.{ask_order, ask_ordered, laid_object, fields_room, fields_taken}
use borrow.Author.Rules.{rules}
use Rattle.planner.proofs.inner.plans.+lay_fields_lay_items_lay_object_lay_out.Goals as goal

pub lay_fields-loop-q-init : goal.lay_fields-loop-q-init
lay_fields-loop-q-init t c = (search (ordering_start, rules), search (fields_counting, rules))

pub lay_fields-overflow_mul-place : goal.lay_fields-overflow_mul-place
lay_fields-overflow_mul-place t c = search (ordering_place, rules)

pub lay_fields-overflow_add-place : goal.lay_fields-overflow_add-place
lay_fields-overflow_add-place t c = search (ordering_key, rules)

pub lay_fields-overflow_add-place-in-loop-q : goal.lay_fields-overflow_add-place-in-loop-q
lay_fields-overflow_add-place-in-loop-q t c = search (ordering_value, rules)

pub lay_fields-overflow_add-field : goal.lay_fields-overflow_add-field
lay_fields-overflow_add-field t c = search (ordering_next, rules)

pub lay_fields-overflow_cast-field : goal.lay_fields-overflow_cast-field
lay_fields-overflow_cast-field t c = search (ordering_position, rules)

pub lay_fields-lay_out-here-requires : goal.lay_fields-lay_out-here-requires
lay_fields-lay_out-here-requires t c = let lt = c.loop-q-test.true in
    let i = c.field_at-field.ensures in
    let k = c.child_at-key.ensures in
    let v = c.child_at-value.ensures in
    let go = c.loop-q.invariant.0 in
    (child_falls (ordering_below go lt i k v) c.decreases, (ordering_child go lt i k v, field_room go lt i k v _ _ _ c.loop-q.invariant.1))

pub lay_fields-loop-q-preserved : goal.lay_fields-loop-q-preserved
lay_fields-loop-q-preserved t c = let lt = c.loop-q-test.true in
    let i = c.field_at-field.ensures in
    let k = c.child_at-key.ensures in
    let v = c.child_at-value.ensures in
    let go = c.loop-q.invariant.0 in
    (ordering_on go lt i k v c.lay_out-here.ensures.laid, field_counted go lt i k v _ _ _ c.loop-q.invariant.1 c.lay_out-here.ensures.counted)

pub lay_fields-shape_of-plan : goal.lay_fields-shape_of-plan
lay_fields-shape_of-plan t c = search (ordering_long, rules)

pub lay_fields-returns-clause-laid : goal.lay_fields-returns-clause-laid
lay_fields-returns-clause-laid t c = search (ordering_ends, rules)

pub lay_fields-returns-clause-counted : goal.lay_fields-returns-clause-counted
lay_fields-returns-clause-counted t c = search (fields_counted, rules)

pub lay_items-loop-i-init : goal.lay_items-loop-i-init
lay_items-loop-i-init t c = (search (laying_start, rules), search (counting_items, rules))

pub lay_items-lay_out-here-requires : goal.lay_items-lay_out-here-requires
lay_items-lay_out-here-requires t c = (search (child_falls, laying_below, some_left, rules), (search (laying_child, some_left, rules), search (item_room, some_left, rules)))

pub lay_items-overflow_add-from : goal.lay_items-overflow_add-from
lay_items-overflow_add-from t c = search (laying_fits, some_left, rules)

pub lay_items-overflow_cast-position : goal.lay_items-overflow_cast-position
lay_items-overflow_cast-position t c = search (laying_position, some_left, rules)

pub lay_items-loop-i-preserved : goal.lay_items-loop-i-preserved
lay_items-loop-i-preserved t c = (search (laying_on, some_left, one_less, one_on, rules), search (item_counted, some_left, one_less, one_on, rules))

pub lay_items-shape_of-plan : goal.lay_items-shape_of-plan
lay_items-shape_of-plan t c = search (laying_long, rules)

pub lay_items-returns-clause-laid : goal.lay_items-returns-clause-laid
lay_items-returns-clause-laid t c = search (laying_ends, none_left, rules)

pub lay_items-returns-clause-counted : goal.lay_items-returns-clause-counted
lay_items-returns-clause-counted t c = search (items_counted, none_left, rules)

pub lay_object-order_fields-total-requires : goal.lay_object-order_fields-total-requires
lay_object-order_fields-total-requires t c = search (ask_order, rules)

pub lay_object-overflow_add-at : goal.lay_object-overflow_add-at
lay_object-overflow_add-at t c = search (object_next_fits, rules)

pub lay_object-lay_fields-requires : goal.lay_object-lay_fields-requires
lay_object-lay_fields-requires t c = let asks = c.requires.asks in
    let room = c.requires.room in
    let arranged = c.order_fields-total.ensures in
    (search (fields_fall, rules), (search (ask_ordered, arranged, asks, rules), search (fields_room, arranged, asks, room, rules)))

pub lay_object-returns-clause-laid : goal.lay_object-returns-clause-laid
lay_object-returns-clause-laid t c = let asks = c.requires.asks in
    let arranged = c.order_fields-total.ensures in
    search (laid_object, arranged, asks, rules)

pub lay_object-returns-clause-counted : goal.lay_object-returns-clause-counted
lay_object-returns-clause-counted t c = let asks = c.requires.asks in
    let arranged = c.order_fields-total.ensures in
    search (fields_taken, arranged, asks, rules)

pub lay_out-overflow_add-steps : goal.lay_out-overflow_add-steps
lay_out-overflow_add-steps t c = search (lay_fits, rules)

pub lay_out-name_kind-bound-requires : goal.lay_out-name_kind-bound-requires
lay_out-name_kind-bound-requires t c = search (ask_name, rules)

pub lay_out-overflow_add-result : goal.lay_out-overflow_add-result
lay_out-overflow_add-result t c = search (next_fits, rules)

pub lay_out-returns-then-kind-eq-NAME-clause-laid : goal.lay_out-returns-then-kind-eq-NAME-clause-laid
lay_out-returns-then-kind-eq-NAME-clause-laid t c = search (laid_name, rules)

pub lay_out-returns-then-kind-eq-NAME-clause-counted : goal.lay_out-returns-then-kind-eq-NAME-clause-counted
lay_out-returns-then-kind-eq-NAME-clause-counted t c = search (name_counted, rules)

pub lay_out-overflow_add-at : goal.lay_out-overflow_add-at
lay_out-overflow_add-at t c = search (next_fits, rules)

pub lay_out-lay_items-requires : goal.lay_out-lay_items-requires
lay_out-lay_items-requires t c = (items_fall c.requires.asks.walks.node.low c.decreases, (search (ask_items, rules), search (items_room, rules)))

pub lay_out-returns-then-kind-eq-ARRAY-clause-laid : goal.lay_out-returns-then-kind-eq-ARRAY-clause-laid
lay_out-returns-then-kind-eq-ARRAY-clause-laid t c = let asks = c.requires.asks in
    search (laid_array, asks, c.lay_items.ensures.laid, c.put_entry-then-kind-eq-ARRAY.ensures, rules)

pub lay_out-returns-then-kind-eq-ARRAY-clause-counted : goal.lay_out-returns-then-kind-eq-ARRAY-clause-counted
lay_out-returns-then-kind-eq-ARRAY-clause-counted t c = let asks = c.requires.asks in
    search (array_counted, asks, c.lay_items.ensures.counted, rules)

pub lay_out-lay_object-requires : goal.lay_out-lay_object-requires
lay_out-lay_object-requires t c = (search (object_falls, rules), (search (ask_object, rules), search (object_room, rules)))

pub lay_out-returns-then-kind-eq-OBJECT-clause-counted : goal.lay_out-returns-then-kind-eq-OBJECT-clause-counted
lay_out-returns-then-kind-eq-OBJECT-clause-counted t c = search (object_counted, rules)

pub lay_out-overflow_add-result-2 : goal.lay_out-overflow_add-result-2
lay_out-overflow_add-result-2 t c = search (next_fits, rules)

pub lay_out-returns-clause-laid : goal.lay_out-returns-clause-laid
lay_out-returns-clause-laid t c = search (laid_plain, rules)

pub lay_out-returns-clause-counted : goal.lay_out-returns-clause-counted
lay_out-returns-clause-counted t c = search (plain_counted, rules)
