use Rattle.table.specs.Contents.{contents}
use Prim.Native.Nat.{◌+◌, ◌-◌, ◌*◌}
use Rattle.planner.proofs.destructuring.SecondPass.{LayingItems, LayingFields}
use Rattle.planner.proofs.destructuring.Counting.{Counting}
use Rattle.planner.specs.code.Passes.{lay_out_items, lay_out_ordered}
use lib.ListN.{length}
use Rattle.planner.proofs.inner.plans.+lay_fields_lay_items_lay_object_lay_out.Given as goal

abbrev pub decreases-lay_fields : goal.decreases-lay_fields
decreases-lay_fields l = 4 * l.parent - 2

abbrev pub invariant-lay_fields-loop-q : goal.invariant-lay_fields-loop-q
invariant-lay_fields-loop-q l = LayingFields (contents l.tables) l.states l.binders l.parent l.first l.order l.total l.initial.plan l.at l.q l.plan l.here
    × Counting l.initial.steps (length (lay_out_ordered l.binders (contents l.tables) l.first l.order 0 l.total)) l.steps (length (lay_out_ordered l.binders (contents l.tables) l.first l.order l.q (l.total - l.q)))

abbrev pub decreases-lay_items : goal.decreases-lay_items
decreases-lay_items l = 4 * l.parent - 2

abbrev pub invariant-lay_items-loop-i : goal.invariant-lay_items-loop-i
invariant-lay_items-loop-i l = LayingItems (contents l.tables) l.states l.binders l.parent l.from l.left l.initial.plan l.at (l.from + l.i) (l.left - l.i) (l.i + 1) l.plan l.here
    × Counting l.initial.steps (length (lay_out_items l.binders (contents l.tables) l.from l.left 1)) l.steps (length (lay_out_items l.binders (contents l.tables) (l.from + l.i) (l.left - l.i) (l.i + 1)))

abbrev pub decreases-lay_object : goal.decreases-lay_object
decreases-lay_object l = 4 * l.node - 1

abbrev pub decreases-lay_out : goal.decreases-lay_out
decreases-lay_out l = 4 * l.node
