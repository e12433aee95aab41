use Prim.Native.Nat.{◌+◌, ◌-◌, ◌*◌}
use Rattle.value.proofs.Marking.{MarkingFields}
use Rattle.value.proofs.inner.admitted.fields_marked.Given as goal

abbrev pub invariant-loop-i : goal.invariant-loop-i
invariant-loop-i l = MarkingFields l.nodes l.children l.marks l.at l.left (l.at + l.i * 2) (l.left - l.i)
