use Rattle.table.specs.Contents.{contents}
use Rattle.common_example.proofs.loops.graph.PlaceLaws.{Placing}
use Rattle.common_example.proofs.graph.node_places.side_places.Given as goal

abbrev pub invariant-loop-i : goal.invariant-loop-i
invariant-loop-i l = Placing (contents l.tables) l.held l.side l.count l.i l.places
