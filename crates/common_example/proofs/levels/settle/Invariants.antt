use Rattle.common_example.proofs.loops.sizes.SizeLoops.{Settling}
use Rattle.common_example.proofs.levels.settle.Given as goal

abbrev pub invariant-loop-done : goal.invariant-loop-done
invariant-loop-done l = Settling l.joined.graph.heads l.joined.graph.links l.joined.classes l.levels l._done l.sizes
