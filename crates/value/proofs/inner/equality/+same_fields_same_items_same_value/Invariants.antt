use Rattle.table.specs.Contents.{contents}
use Prim.Native.Nat.{◌-◌, ◌*◌}
use Rattle.value.proofs.SameValues.{Pairing, ByKey}
use Rattle.value.proofs.inner.equality.+same_fields_same_items_same_value.Given as goal

abbrev pub decreases-same_fields : goal.decreases-same_fields
decreases-same_fields l = 2 * l.a - 1

abbrev pub invariant-same_fields-loop-i : goal.invariant-same_fields-loop-i
invariant-same_fields-loop-i l = ByKey (contents l.tables) l.a l.b l.first l.count l.i

abbrev pub decreases-same_items : goal.decreases-same_items
decreases-same_items l = 2 * l.parent - 1

abbrev pub invariant-same_items-loop-i : goal.invariant-same_items-loop-i
invariant-same_items-loop-i l = Pairing (contents l.tables) l.parent l.at l.from l.left l.i

abbrev pub decreases-same_value : goal.decreases-same_value
decreases-same_value l = 2 * l.a
