use Rattle.common_example.proofs.loops.classes.MeetLoops.{JoiningItems}
use Rattle.common_example.proofs.classes.join_items.Given as goal

abbrev pub invariant-loop-i : goal.invariant-loop-i
invariant-loop-i l = JoiningItems l.graph.heads l.graph.links l.initial.classes l.at l.from l.count l.i l.classes
