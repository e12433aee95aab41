use Prim.Native.Nat.{◌<◌}
use Rattle.plan_store_test.proofs.checksum.Given as goal

abbrev pub invariant-loop-word : goal.invariant-loop-word
invariant-loop-word l = l.sum < 1000003
