use Rattle.common_example.proofs.loops.writing.WriteParts.{writing_start, writing_link, writing_next, writing_part, writing_one, writing_key, writing_place, writing_to, writing_end, writing_on, writing_ends, place_falls, parts_fall, place_class, place_asks, place_level, place_inside, place_leaf_asks, place_leaf, place_parts, place_node_fits, place_node_low, place_parent, place_done}
use Rattle.common_example.proofs.loops.writing.WriteLoops.{more_left, none_left}
use Rattle.std.proofs.Common.{◌≡◌, ◌+◌, ◌-◌, ◌<◌, arith}
use borrow.Author.Rules.{rules}
use Rattle.common_example.proofs.writing.+write_parts_write_place.Goals as goal

pub write_parts-loop-part-init : goal.write_parts-loop-part-init
write_parts-loop-part-init t c = search (writing_start, rules)

pub write_parts-write_key-value-requires : goal.write_parts-write_key-value-requires
write_parts-write_key-value-requires t c = search (writing_key, more_left, rules)

pub write_parts-offset_bounds-source-from : goal.write_parts-offset_bounds-source-from
write_parts-offset_bounds-source-from t c = search (writing_link, more_left, rules)

pub write_parts-bounds-source-from : goal.write_parts-bounds-source-from
write_parts-bounds-source-from t c = search (writing_link, more_left, rules)

pub write_parts-write_place-requires : goal.write_parts-write_place-requires
write_parts-write_place-requires t c = (search (place_falls, rules), search (writing_place, more_left, rules))

pub write_parts-size_at-size-requires : goal.write_parts-size_at-size-requires
write_parts-size_at-size-requires t c = search (writing_part, more_left, rules)

pub write_parts-overflow_add-to : goal.write_parts-overflow_add-to
write_parts-overflow_add-to t c = search (writing_to, more_left, rules)

pub write_parts-overflow_sub-end : goal.write_parts-overflow_sub-end
write_parts-overflow_sub-end t c = search (writing_one, more_left, rules)

pub write_parts-overflow_add-end : goal.write_parts-overflow_add-end
write_parts-overflow_add-end t c = search (writing_end, more_left, rules)

pub write_parts-overflow_add-from : goal.write_parts-overflow_add-from
write_parts-overflow_add-from t c = search (writing_next, more_left, rules)

pub write_parts-loop-part-preserved : goal.write_parts-loop-part-preserved
write_parts-loop-part-preserved t c = let go = c.loop-part.invariant in
    let more : 0 < c.args.parts.count - c.loop-part._part = omega arith in
    let e : c.args.parts.count - (c.loop-part._part + 1) ≡ c.args.parts.count - c.loop-part._part - 1 = omega arith in
    rw e (search (writing_on go more, rules))

pub write_parts-returns : goal.write_parts-returns
write_parts-returns t c = search (writing_ends, none_left, rules)

pub write_place-class_of-class-requires : goal.write_place-class_of-class-requires
write_place-class_of-class-requires t c = search (place_class, rules)

pub write_place-parts_at-requires : goal.write_place-parts_at-requires
write_place-parts_at-requires t c = search (place_asks, rules)

pub write_place-write_literal-requires : goal.write_place-write_literal-requires
write_place-write_literal-requires t c = search (place_leaf_asks, rules)

pub write_place-returns-in_default : goal.write_place-returns-in_default
write_place-returns-in_default t c = place_leaf c.requires c.class_of-class.ensures _ c.parts_at.ensures c.in_default.is c.leaf_node.ensures c.write_literal.ensures

pub write_place-overflow_sub-rest : goal.write_place-overflow_sub-rest
write_place-overflow_sub-rest t c = search (place_level, rules)

pub write_place-write_parts-end-requires : goal.write_place-write_parts-end-requires
write_place-write_parts-end-requires t c = (search (parts_fall, place_level, rules), place_parts c.requires c.class_of-class.ensures c.parts_at.ensures c.in-Some.is)

pub write_place-size_at-requires : goal.write_place-size_at-requires
write_place-size_at-requires t c = search (place_inside, rules)

pub write_place-overflow_add-node : goal.write_place-overflow_add-node
write_place-overflow_add-node t c = place_node_fits c.requires c.class_of-class.ensures c.parts_at.ensures c.in-Some.is c.write_parts-end.ensures c.size_at.ensures

pub write_place-overflow_sub-node : goal.write_place-overflow_sub-node
write_place-overflow_sub-node t c = place_node_low c.requires c.class_of-class.ensures c.parts_at.ensures c.in-Some.is c.write_parts-end.ensures c.size_at.ensures

pub write_place-write_parent-requires : goal.write_place-write_parent-requires
write_place-write_parent-requires t c = place_parent c.requires c.class_of-class.ensures c.parts_at.ensures c.in-Some.is c.write_parts-end.ensures c.size_at.ensures

pub write_place-returns : goal.write_place-returns
write_place-returns t c = place_done c.requires c.class_of-class.ensures c.parts_at.ensures c.in-Some.is c.write_parts-end.ensures c.size_at.ensures c.write_parent.ensures
