use Rattle.common_example.proofs.loops.classes.ClassLoop.{Joining}
use Rattle.common_example.proofs.classes.join_classes.Given as goal

abbrev pub invariant-loop-i : goal.invariant-loop-i
invariant-loop-i l = Joining l.initial.classes l.from l.to l.i l.classes
