use Rattle.plan_store.proofs.head.Writing.{Clearing}
use Rattle.plan_store.proofs.head.clear_used.Given as goal

abbrev pub invariant-loop-pack : goal.invariant-loop-pack
invariant-loop-pack l = Clearing l.initial.store l.packs l.store l.pack
