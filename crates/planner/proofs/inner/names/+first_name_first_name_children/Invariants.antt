use Rattle.table.specs.Contents.{contents}
use Prim.Native.Nat.{◌+◌, ◌-◌, ◌*◌}
use Rattle.planner.proofs.laws.Names.{Looking}
use Rattle.planner.proofs.inner.names.+first_name_first_name_children.Given as goal

abbrev pub decreases-first_name : goal.decreases-first_name
decreases-first_name l = 2 * l.node

abbrev pub decreases-first_name_children : goal.decreases-first_name_children
decreases-first_name_children l = 2 * l.parent - 1

abbrev pub invariant-first_name_children-loop-i : goal.invariant-first_name_children-loop-i
invariant-first_name_children-loop-i l = Looking l.sets l.keys (contents l.tables) l.flags l.parent l.at l.step l.left (l.at + l.i * l.step) (l.left - l.i)
