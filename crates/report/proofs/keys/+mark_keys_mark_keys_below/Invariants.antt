use Rattle.table.specs.Contents.{contents}
use Prim.Native.Nat.{◌+◌, ◌-◌, ◌*◌}
use Rattle.report.proofs.KeyNames.{MarkingBelow}
use Rattle.report.proofs.keys.+mark_keys_mark_keys_below.Given as goal

abbrev pub decreases-mark_keys : goal.decreases-mark_keys
decreases-mark_keys l = 2 * l.node

abbrev pub decreases-mark_keys_below : goal.decreases-mark_keys_below
decreases-mark_keys_below l = 2 * l.parent - 1

abbrev pub invariant-mark_keys_below-loop-i : goal.invariant-mark_keys_below-loop-i
invariant-mark_keys_below-loop-i l = MarkingBelow (contents l.tables) l.states l.parent l.at l.step l.left l.initial.met (l.at + l.i * l.step) (l.left - l.i) l.met
