use Rattle.literal.specs.code.Chunks.{Prefix}
use Rattle.literal.proofs.order.compare_rest.Given as goal

abbrev pub invariant-loop-i : goal.invariant-loop-i
invariant-loop-i l = Prefix l.a l.b l.i
