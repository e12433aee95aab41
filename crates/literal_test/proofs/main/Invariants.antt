use Prim.Native.Nat.{◌≤◌}
use Rattle.literal_test.proofs.main.Given as goal

abbrev pub invariant-loop-pair : goal.invariant-loop-pair
invariant-loop-pair l = (l.keys ≤ l.pair) × (l.texts ≤ l.pair)
