use Rattle.common_example.proofs.loops.writing.WriteLoops.{numbering_start, number_link, number_place, number_next, number_asks, number_key_fits, number_fits, number_room, number_value, numbering_on, numbering_ends, more_left, none_left}
use Rattle.std.proofs.Common.{◌≡◌, ◌+◌, ◌-◌, arith}
use borrow.Author.Rules.{rules}
use Rattle.common_example.proofs.writing.number_parts.Goals as goal

pub loop-part-init : goal.loop-part-init
loop-part-init c = search (numbering_start, rules)

pub number_key-value-requires : goal.number_key-value-requires
number_key-value-requires c = search (number_asks, more_left, rules)

pub overflow_add-node : goal.overflow_add-node
overflow_add-node c = search (number_key_fits, more_left, rules)

pub offset_bounds-source-from : goal.offset_bounds-source-from
offset_bounds-source-from c = search (number_link, more_left, rules)

pub bounds-source-from : goal.bounds-source-from
bounds-source-from c = search (number_link, more_left, rules)

pub size_at-requires : goal.size_at-requires
size_at-requires c = search (number_place, more_left, rules)

pub overflow_add-node-in-loop-part : goal.overflow_add-node-in-loop-part
overflow_add-node-in-loop-part c = search (number_fits, more_left, rules)

pub offset_bounds-children-value : goal.offset_bounds-children-value
offset_bounds-children-value c = search (number_room, more_left, rules)

pub bounds-children-value : goal.bounds-children-value
bounds-children-value c = search (number_room, more_left, rules)

pub overflow_add-to : goal.overflow_add-to
overflow_add-to c = search (number_value, more_left, rules)

pub overflow_add-from : goal.overflow_add-from
overflow_add-from c = search (number_next, more_left, rules)

pub loop-part-preserved : goal.loop-part-preserved
loop-part-preserved c = let e : c.args.parts.count - (c.loop-part._part + 1) ≡ c.args.parts.count - c.loop-part._part - 1 = omega arith in rw e (search (numbering_on, more_left, rules))

pub returns : goal.returns
returns c = search (numbering_ends, none_left, rules)
