use Prim.Native.Nat.{◌+◌, ◌-◌}
use Rattle.value.proofs.Marking.{MarkingItems}
use Rattle.value.proofs.inner.admitted.items_marked.Given as goal

abbrev pub invariant-loop-place : goal.invariant-loop-place
invariant-loop-place l = MarkingItems l.children l.marks l.at l.left l.place (l.at + l.left - l.place)
