use Prim.Native.Nat.{◌<◌}
use Rattle.page_test.proofs.checksum.Given as goal

abbrev pub invariant-loop-byte : goal.invariant-loop-byte
invariant-loop-byte l = l.sum < 1000003
