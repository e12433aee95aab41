use Rattle.common_example.specs.code.Graph.{step_of}
use Rattle.common_example.proofs.loops.writing.WriteParts.{Writing}
use Prim.Native.Nat.{◌*◌, ◌+◌, ◌-◌}
use Rattle.common_example.proofs.writing.+write_parts_write_place.Given as goal

abbrev pub decreases-write_parts : goal.decreases-write_parts
decreases-write_parts l = 2 * l.rest + 1

abbrev pub invariant-write_parts-loop-part : goal.invariant-write_parts-loop-part
invariant-write_parts-loop-part l = Writing l.source.nodes.now l.source.joined.now.graph.heads l.source.joined.now.graph.links l.source.joined.now.classes l.source.sizes.now (step_of l.parts.shape) l.parts.link l.parts.count l.rest l.source.before l.source.entries l.at l.entry l.initial.out l.initial.children l.from (l.parts.count - l._part) l.to l.end l.out l.children

abbrev pub decreases-write_place : goal.decreases-write_place
decreases-write_place l = 2 * l.rest
