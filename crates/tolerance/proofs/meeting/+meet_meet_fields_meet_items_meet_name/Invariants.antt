use Rattle.table.specs.Contents.{contents}
use Rattle.tolerance.proofs.nodes.MeetNodes.{MeetingItems, MeetingFields}
use Rattle.tolerance.specs.code.Post.{classes_in}
use Prim.Native.Nat.{◌+◌, ◌-◌, ◌*◌}
use mathlib.Core.Bool.{cond}
use Rattle.tolerance.proofs.meeting.+meet_meet_fields_meet_items_meet_name.Given as goal

abbrev pub decreases-meet : goal.decreases-meet
decreases-meet l = cond l.pattern 1200 0 + 2 * l.a

abbrev pub decreases-meet_fields : goal.decreases-meet_fields
decreases-meet_fields l = cond l.pattern 1200 0 + 2 * l.a - 1

abbrev pub invariant-meet_fields-loop-i : goal.invariant-meet_fields-loop-i
invariant-meet_fields-loop-i l = MeetingFields (contents l.tables) l.pattern l.a l.b l.first l.count l.i l.initial.list (classes_in l.initial.classes) l.list (classes_in l.classes)

abbrev pub decreases-meet_items : goal.decreases-meet_items
decreases-meet_items l = cond l.pattern 1200 0 + 2 * l.a - 1

abbrev pub invariant-meet_items-loop-i : goal.invariant-meet_items-loop-i
invariant-meet_items-loop-i l = MeetingItems (contents l.tables) l.pattern l.a l.b l.at l.from l.count l.i l.initial.list (classes_in l.initial.classes) l.list (classes_in l.classes)

abbrev pub decreases-meet_name : goal.decreases-meet_name
decreases-meet_name l = 1200 + 2 * l.a - 1
