use Prim.Native.Nat.{◌+◌, ◌-◌, ◌*◌}
use Rattle.table.specs.Contents.{contents}
use Rattle.report.proofs.KeyNames.{MarkingKeys}
use Rattle.report.proofs.keys.mark_object_keys.Given as goal

abbrev pub invariant-loop-i : goal.invariant-loop-i
invariant-loop-i l = MarkingKeys (contents l.tables) l.states l.object l.initial.met (l.first + l.i * 2) (l.count - l.i) l.met
