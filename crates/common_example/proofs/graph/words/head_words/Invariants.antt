use Rattle.common_example.proofs.loops.graph.GraphLoops.{HeadsFilling}
use Rattle.common_example.proofs.graph.words.head_words.Given as goal

abbrev pub invariant-loop-i : goal.invariant-loop-i
invariant-loop-i l = HeadsFilling l.nodes l.marks l.like l.i l.heads
