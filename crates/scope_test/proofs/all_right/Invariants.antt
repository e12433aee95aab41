use Prim.Native.Nat.{◌*◌, ◌≤◌}
use Rattle.scope_test.proofs.all_right.Given as goal

abbrev pub invariant-loop-mark : goal.invariant-loop-mark
invariant-loop-mark l = l.total ≤ 136 * l.mark
