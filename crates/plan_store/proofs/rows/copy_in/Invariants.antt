use Rattle.plan_store.proofs.rows.Copies.{Copying}
use Rattle.plan_store.proofs.rows.copy_in.Given as goal

abbrev pub invariant-loop-i : goal.invariant-loop-i
invariant-loop-i l = Copying l.initial.store l.at l.plan l.count l.store l.i
