use Rattle.std.proofs.lemmas.Result.{err_from_is_err_and}
use Rattle.assignment.proofs.preview.Previews.{roomy_kept}
use Rattle.planner.proofs.Left.{some_left, none_left, one_less, one_on, two_on}
use Rattle.planner.proofs.destructuring.SecondPass.{object_falls, child_falls}
use Rattle.assignment.proofs.flatten.FlatNodes.{ask_sides, at_low, ask_bound, ask_bind_right, flat_compared, flat_bind_left, flat_bind_right, ask_arrays, ask_keyed, flat_by_items, flat_by_keys, flat_refused, arrays_differ, ask_items, arrays_items, ask_fields, objects_refused}
use Rattle.assignment.proofs.flatten.FlatLoops.{kept_start, kept_on, items_start, items_left_fits, items_right_fits, items_child, items_below, items_on, items_fail, items_over, fields_start, fields_fit, fields_ask, fields_child, fields_below, fields_on, fields_fail, fields_over, parts_fall}
use borrow.Author.Rules.{rules}
use Rattle.assignment.proofs.flatten.+flatten_flatten_arrays_flatten_fields_flatten_items_flatten_objects.Goals as goal

pub flatten-judge-verdict-requires : goal.flatten-judge-verdict-requires
flatten-judge-verdict-requires t c = (search (ask_sides, rules), search rules)

pub flatten-compare_sides-requires : goal.flatten-compare_sides-requires
flatten-compare_sides-requires t c = search (at_low, rules)

pub flatten-returns-in-Compare : goal.flatten-returns-in-Compare
flatten-returns-in-Compare t c = (search (flat_compared, rules), (tt, tt))

pub flatten-bind_planned-requires : goal.flatten-bind_planned-requires
flatten-bind_planned-requires t c = (search (ask_bound, rules), search (at_low, rules))

pub flatten-returns-in-BindLeft : goal.flatten-returns-in-BindLeft
flatten-returns-in-BindLeft t c = (flat_bind_left c.requires.0 c.judge-verdict.ensures (search rules) c.bind_planned.ensures, (tt, tt))

pub flatten-bind_unplanned-requires : goal.flatten-bind_unplanned-requires
flatten-bind_unplanned-requires t c = (search (ask_bind_right, rules), search (roomy_kept, rules))

pub flatten-returns-in-BindRight : goal.flatten-returns-in-BindRight
flatten-returns-in-BindRight t c = (flat_bind_right c.requires.0 c.judge-verdict.ensures (search rules) c.bind_unplanned.ensures.0, (tt, tt))

pub flatten-flatten_arrays-requires : goal.flatten-flatten_arrays-requires
flatten-flatten_arrays-requires t c = (object_falls c.requires.0.pair_ok.second.low c.decreases, (ask_arrays c.requires.0 c.judge-verdict.ensures (search rules), search (roomy_kept, c.requires, rules)))

pub flatten-returns-in-Items : goal.flatten-returns-in-Items
flatten-returns-in-Items t c = (flat_by_items c.requires.0 c.judge-verdict.ensures (search rules) c.flatten_arrays.ensures.0, (tt, tt))

pub flatten-flatten_objects-requires : goal.flatten-flatten_objects-requires
flatten-flatten_objects-requires t c = (object_falls c.requires.0.pair_ok.second.low c.decreases, (ask_keyed c.requires.0 c.judge-verdict.ensures (search rules), search (roomy_kept, c.requires, rules)))

pub flatten-returns-in-ByKey : goal.flatten-returns-in-ByKey
flatten-returns-in-ByKey t c = (flat_by_keys c.requires.0 c.judge-verdict.ensures (search rules) c.flatten_objects.ensures.0, (tt, tt))

pub flatten-returns-in-Refuse : goal.flatten-returns-in-Refuse
flatten-returns-in-Refuse t c = (search (flat_refused, rules), (tt, tt))

pub flatten_arrays-returns-then-size-other : goal.flatten_arrays-returns-then-size-other
flatten_arrays-returns-then-size-other t c = (search (arrays_differ, rules), (tt, tt))

pub flatten_arrays-flatten_items-requires : goal.flatten_arrays-flatten_items-requires
flatten_arrays-flatten_items-requires t c = (search (parts_fall, rules), (search (ask_items, rules), search rules))

pub flatten_arrays-returns : goal.flatten_arrays-returns
flatten_arrays-returns t c = (search (arrays_items, c.requires.0, rules), (tt, tt))

pub flatten_fields-loop-i-init : goal.flatten_fields-loop-i-init
flatten_fields-loop-i-init t c = (search (fields_start, rules), search (kept_start, rules))

pub flatten_fields-field_sides-sides-requires : goal.flatten_fields-field_sides-sides-requires
flatten_fields-field_sides-sides-requires t c = fields_ask c.loop-i.invariant.0 (some_left c.loop-i-test.true)

pub flatten_fields-flatten-requires : goal.flatten_fields-flatten-requires
flatten_fields-flatten-requires t c = (search (child_falls, fields_below, some_left, rules), (search (fields_child, some_left, rules), search rules))

pub flatten_fields-returns-in_err-here : goal.flatten_fields-returns-in_err-here
flatten_fields-returns-in_err-here t c = let p = err_from_is_err_and c.from_residual.result c.from_residual.ensures.1 in (rw (p.1, p.2) (fields_fail c.loop-i.invariant.0 (some_left c.loop-i-test.true) c.field_sides-sides.ensures c.flatten.ensures.0 c.in_err-here.was), (tt, tt))

pub flatten_fields-overflow_mul-i : goal.flatten_fields-overflow_mul-i
flatten_fields-overflow_mul-i t c = search (fields_fit, some_left, rules)

pub flatten_fields-overflow_add-first : goal.flatten_fields-overflow_add-first
flatten_fields-overflow_add-first t c = search (fields_fit, some_left, rules)

pub flatten_fields-loop-i-preserved : goal.flatten_fields-loop-i-preserved
flatten_fields-loop-i-preserved t c = (fields_on c.loop-i.invariant.0 (some_left c.loop-i-test.true) c.field_sides-sides.ensures c.flatten.ensures.0 (search rules) (two_on _ _) (one_less _ _), search (kept_on, c.loop-i.invariant.1, rules))

pub flatten_fields-returns : goal.flatten_fields-returns
flatten_fields-returns t c = (search (fields_over, none_left, rules), (tt, tt))

pub flatten_items-loop-i-init : goal.flatten_items-loop-i-init
flatten_items-loop-i-init t c = (search (items_start, rules), search (kept_start, rules))

pub flatten_items-flatten-requires : goal.flatten_items-flatten-requires
flatten_items-flatten-requires t c = (search (child_falls, items_below, some_left, rules), (search (items_child, some_left, rules), search rules))

pub flatten_items-returns-in_err-here : goal.flatten_items-returns-in_err-here
flatten_items-returns-in_err-here t c = let p = err_from_is_err_and c.from_residual.result c.from_residual.ensures.1 in (rw (p.1, p.2) (items_fail c.loop-i.invariant.0 (some_left c.loop-i-test.true) c.child_at-left.ensures c.child_at-right.ensures c.flatten.ensures.0 c.in_err-here.was), (tt, tt))

pub flatten_items-overflow_add-lefts : goal.flatten_items-overflow_add-lefts
flatten_items-overflow_add-lefts t c = search (items_left_fits, some_left, rules)

pub flatten_items-overflow_add-rights : goal.flatten_items-overflow_add-rights
flatten_items-overflow_add-rights t c = search (items_right_fits, some_left, rules)

pub flatten_items-loop-i-preserved : goal.flatten_items-loop-i-preserved
flatten_items-loop-i-preserved t c = (items_on c.loop-i.invariant.0 (some_left c.loop-i-test.true) c.child_at-left.ensures c.child_at-right.ensures c.flatten.ensures.0 (search rules) (one_on _ _) (one_on _ _) (one_less _ _), search (kept_on, c.loop-i.invariant.1, rules))

pub flatten_items-returns : goal.flatten_items-returns
flatten_items-returns t c = (search (items_over, none_left, rules), (tt, tt))

pub flatten_objects-flatten_fields-requires : goal.flatten_objects-flatten_fields-requires
flatten_objects-flatten_fields-requires t c = (parts_fall c.requires.0.asks.pair_ok.second.low c.decreases, (ask_fields c.requires.0 c.collect_object_pairs.ensures (search rules), c.requires.1))

pub flatten_objects-returns : goal.flatten_objects-returns
flatten_objects-returns t c = (search rules, (tt, tt))

pub flatten_objects-returns-in_err-total : goal.flatten_objects-returns-in_err-total
flatten_objects-returns-in_err-total t c = let p = err_from_is_err_and c.from_residual.result c.from_residual.ensures.1 in (rw (p.1, p.2) (objects_refused c.requires.0 c.collect_object_pairs.ensures c.in_err-total.was _), (tt, tt))
