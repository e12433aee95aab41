use Rattle.common_example.proofs.loops.graph.GraphLoops.{FillingTo}
use Rattle.common_example.proofs.roots.start_classes.Given as goal

abbrev pub invariant-loop-place : goal.invariant-loop-place
invariant-loop-place l = FillingTo (λ i. i) 2052 l.place l.classes
