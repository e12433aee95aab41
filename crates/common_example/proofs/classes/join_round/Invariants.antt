use Rattle.common_example.proofs.loops.classes.RoundLoops.{Rounding}
use Rattle.common_example.proofs.classes.join_round.Given as goal

abbrev pub invariant-loop-left : goal.invariant-loop-left
invariant-loop-left l = Rounding l.graph.heads l.graph.links l.initial.classes l.left l.classes
