use Prim.Native.Nat.{◌≤◌}
use Rattle.table_test.proofs.run_cases.Given as goal

abbrev pub invariant-loop-i : goal.invariant-loop-i
invariant-loop-i g l = l.agree ≤ l.i
