use Rattle.common_example.proofs.loops.classes.RoundLoops.{CountingClasses}
use Rattle.common_example.proofs.classes.count_classes.Given as goal

abbrev pub invariant-loop-left : goal.invariant-loop-left
invariant-loop-left l = CountingClasses l.classes l.left l.total
