use Rattle.common_example.proofs.loops.graph.GraphLoops.{FillingTo}
use Rattle.table.specs.Tables.{child_at}
use Rattle.common_example.proofs.graph.key_order.copy_children.Given as goal

abbrev pub invariant-loop-i : goal.invariant-loop-i
invariant-loop-i l = FillingTo (child_at l.children) 512 l.i l.entries
