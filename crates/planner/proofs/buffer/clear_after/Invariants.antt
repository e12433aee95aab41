use Rattle.planner.specs.Entries.{word_at}
use Prim.Native.Nat.{◌≤◌}
use lib.ListN.{length}
use Rattle.planner.proofs.buffer.Filling.{Filling}
use Rattle.planner.proofs.buffer.clear_after.Given as goal

abbrev pub invariant-loop-i : goal.invariant-loop-i
invariant-loop-i l = Filling (word_at l.initial.plan l.from) (length l.initial.plan) l.i l.plan × (l.from ≤ l.i)
