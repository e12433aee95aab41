use Rattle.common_example.specs.code.Graph.{step_of}
use Rattle.common_example.proofs.loops.writing.WriteLoops.{Numbering}
use Prim.Native.Nat.{◌-◌}
use Rattle.common_example.proofs.writing.number_parts.Given as goal

abbrev pub invariant-loop-part : goal.invariant-loop-part
invariant-loop-part l = Numbering l.source.joined.now.graph.links l.source.sizes.now (step_of l.parts.shape) l.parts.link l.parts.count l.before l.entry l.initial.children l.from (l.parts.count - l._part) l.node l.to l.children
