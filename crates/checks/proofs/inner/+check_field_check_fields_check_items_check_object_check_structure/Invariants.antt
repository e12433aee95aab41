use Rattle.table.specs.Contents.{contents}
use Prim.Native.Nat.{◌-◌, ◌*◌}
use Rattle.checks.proofs.Checks.{CheckingItems}
use Rattle.checks.proofs.ObjectFields.{CheckingFields}
use Rattle.checks.proofs.inner.+check_field_check_fields_check_items_check_object_check_structure.Given as goal

abbrev pub decreases-check_field : goal.decreases-check_field
decreases-check_field l = 4 * l.value - 3

abbrev pub decreases-check_fields : goal.decreases-check_fields
decreases-check_fields l = 4 * l.value - 2

abbrev pub invariant-check_fields-loop-i : goal.invariant-check_fields-loop-i
invariant-check_fields-loop-i l = CheckingFields l.reading (contents l.tables) l.pattern l.value l.order l.literals l.total l.count l.so_far l.i

abbrev pub decreases-check_items : goal.decreases-check_items
decreases-check_items l = 4 * l.value - 2

abbrev pub invariant-check_items-loop-i : goal.invariant-check_items-loop-i
invariant-check_items-loop-i l = CheckingItems l.reading (contents l.tables) l.value l.at l.place l.left l.so_far l.i

abbrev pub decreases-check_object : goal.decreases-check_object
decreases-check_object l = 4 * l.value - 1

abbrev pub decreases-check_structure : goal.decreases-check_structure
decreases-check_structure l = 4 * l.value
