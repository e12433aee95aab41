use Rattle.c_calls.proofs.BodyCalls.{Putting}
use Rattle.c_calls.proofs.bodies.put_marks.Given as goal

abbrev pub invariant-loop-i : goal.invariant-loop-i
invariant-loop-i l = Putting l.all l.initial.marks l.marks l.i
