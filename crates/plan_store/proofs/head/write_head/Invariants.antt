use Rattle.plan_store.proofs.head.Writing.{Heading}
use Rattle.plan_store.proofs.head.write_head.Given as goal

abbrev pub invariant-loop-i : goal.invariant-loop-i
invariant-loop-i l = Heading l.initial.store l.shares l.store l.i
