use Rattle.planner.proofs.buffer.Copies.{Copying}
use Rattle.planner.proofs.buffer.copy_entries.Given as goal

abbrev pub invariant-loop-i : goal.invariant-loop-i
invariant-loop-i l = Copying l.scratch l.initial.plan l.at l.count l.i l.to l.plan
