use Prim.Native.Nat.{◌≤◌}
use Rattle.replay.proofs.run_all.Given as goal

abbrev pub invariant-loop-total : goal.invariant-loop-total
invariant-loop-total g l = l.agreed ≤ l.total
