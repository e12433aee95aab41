use Rattle.common_example.proofs.loops.sizes.SizeLoops.{Levelling}
use Rattle.common_example.proofs.levels.next_sizes.Given as goal

abbrev pub invariant-loop-place : goal.invariant-loop-place
invariant-loop-place l = Levelling l.joined.graph.heads l.joined.graph.links l.joined.classes l.sizes l.place l.next
