use Rattle.plan_store.proofs.head.Places.{Ending}
use Rattle.plan_store.proofs.head.entries_end.Given as goal

abbrev pub invariant-loop-i : goal.invariant-loop-i
invariant-loop-i l = Ending l.store l.packs l.i l.end
