use Rattle.table.specs.Contents.{contents}
use Prim.Native.Nat.{◌+◌, ◌-◌, ◌*◌}
use Rattle.planner.proofs.destructuring.FirstPass.{Deciding}
use Rattle.planner.proofs.destructuring.Counting.{Counting}
use Rattle.planner.specs.code.Passes.{steps_below}
use Rattle.planner.proofs.inner.destructuring.+decide_decide_children.Given as goal

abbrev pub decreases-decide : goal.decreases-decide
decreases-decide l = 2 * l.node

abbrev pub decreases-decide_children : goal.decreases-decide_children
decreases-decide_children l = 2 * l.parent - 1

abbrev pub invariant-decide_children-loop-i : goal.invariant-decide_children-loop-i
invariant-decide_children-loop-i l = Deciding (contents l.tables) l.states l.parent l.at l.step l.left l.initial.binders (l.at + l.i * l.step) (l.left - l.i) l.binders
    × Counting l.initial.steps (steps_below (contents l.tables) l.at l.step l.left) l.steps (steps_below (contents l.tables) (l.at + l.i * l.step) l.step (l.left - l.i))
