use Rattle.literal.proofs.Chunks.{Alike}
use Rattle.literal.proofs.order.same_chunk.Given as goal

abbrev pub invariant-loop-i : goal.invariant-loop-i
invariant-loop-i l = Alike l.a l.b l.at l.same l.i
