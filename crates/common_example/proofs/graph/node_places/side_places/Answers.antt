use Rattle.common_example.proofs.loops.graph.PlaceLaws.{placing_start, placing_place, placing_asks, placing_on, placed}
use borrow.Author.Rules.{rules}
use Rattle.common_example.proofs.graph.node_places.side_places.Goals as goal

pub loop-i-init : goal.loop-i-init
loop-i-init c = search (placing_start, rules)

pub overflow_add-i : goal.overflow_add-i
overflow_add-i c = search (placing_place, rules)

pub overflow_cast-i : goal.overflow_cast-i
overflow_cast-i c = search (placing_place, rules)

pub node_place-requires : goal.node_place-requires
node_place-requires c = search (placing_asks, rules)

pub offset_bounds-places-i : goal.offset_bounds-places-i
offset_bounds-places-i c = search (placing_place, rules)

pub bounds-places-i : goal.bounds-places-i
bounds-places-i c = search (placing_place, rules)

pub loop-i-preserved : goal.loop-i-preserved
loop-i-preserved c = search (placing_on, rules)

pub returns : goal.returns
returns c = search (placed, rules)
