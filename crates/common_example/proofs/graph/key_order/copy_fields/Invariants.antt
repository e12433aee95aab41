use Rattle.common_example.proofs.loops.graph.KeyOrderLoops.{Copying}
use Rattle.common_example.proofs.graph.key_order.copy_fields.Given as goal

abbrev pub invariant-loop-j : goal.invariant-loop-j
invariant-loop-j l = Copying l.children l.order l.first l.count l.initial.entries l.words l.j l.entries
