use Rattle.common_example.specs.code.Graph.{step_of}
use Rattle.common_example.proofs.loops.sizes.SizeLoops.{Summing}
use Prim.Native.Nat.{◌-◌}
use Rattle.common_example.proofs.levels.sum_sizes.Given as goal

abbrev pub invariant-loop-part : goal.invariant-loop-part
invariant-loop-part l = Summing l.graph.links l.sizes (step_of l.parts.shape) l.parts.link l.parts.count l.start l.link (l.parts.count - l._part) l.total
