use Prim.Native.Nat.{◌+◌}
use Rattle.scope.specs.Bytes.{sum_of}
use Rattle.base.proofs.Filling.{Filling}
use Rattle.scope.proofs.ByteScopeFromScope.from.Given as goal

abbrev pub invariant-loop-i : goal.invariant-loop-i
invariant-loop-i l = Filling (λ k. sum_of l.scope (k + 1)) 128 l.i l.marks
