use Rattle.literal.specs.code.Chunks.{Prefix}
use Prim.Native.Nat.{◌*◌}
use Rattle.literal.proofs.order.same_chunks.Given as goal

abbrev pub invariant-loop-k : goal.invariant-loop-k
invariant-loop-k l = Prefix l.a l.b (l.k * 64)
