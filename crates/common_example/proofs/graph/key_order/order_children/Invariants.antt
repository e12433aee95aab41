use Rattle.table.specs.Contents.{contents}
use Rattle.common_example.proofs.loops.graph.KeyOrderLoops.{Ordering}
use Rattle.common_example.proofs.graph.key_order.order_children.Given as goal

abbrev pub invariant-loop-n : goal.invariant-loop-n
invariant-loop-n l = Ordering (contents l.tables) l.marks l.count l.n l.entries
