use Rattle.common_example.proofs.loops.classes.MeetLoops.{JoiningFields}
use Rattle.common_example.proofs.classes.join_fields.Given as goal

abbrev pub invariant-loop-i : goal.invariant-loop-i
invariant-loop-i l = JoiningFields l.graph.heads l.graph.links l.initial.classes l.at l.from l.count l.i l.classes
