use Rattle.plan_store.proofs.head.Passes.{Leaving}
use Rattle.plan_store.proofs.head.room_in.Given as goal

abbrev pub invariant-loop-i : goal.invariant-loop-i
invariant-loop-i l = Leaving l.store l.packs l.i l.left
