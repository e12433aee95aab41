use Rattle.table.specs.Contents.{contents}
use Prim.Native.Nat.{◌-◌, ◌*◌}
use Rattle.first_miss.proofs.nodes.WalkParts.{WalkingItems, WalkingFields}
use Rattle.first_miss.proofs.walking.+walk_walk_fields_walk_items.Given as goal

abbrev pub decreases-walk : goal.decreases-walk
decreases-walk l = 2 * l.a

abbrev pub decreases-walk_fields : goal.decreases-walk_fields
decreases-walk_fields l = 2 * l.a - 1

abbrev pub invariant-walk_fields-loop-i : goal.invariant-walk_fields-loop-i
invariant-walk_fields-loop-i l = WalkingFields (contents l.tables) l.a l.b l.first l.count l.i l.initial.list l.list

abbrev pub decreases-walk_items : goal.decreases-walk_items
decreases-walk_items l = 2 * l.a - 1

abbrev pub invariant-walk_items-loop-i : goal.invariant-walk_items-loop-i
invariant-walk_items-loop-i l = WalkingItems (contents l.tables) l.a l.b l.at l.from l.count l.i l.initial.list l.list
