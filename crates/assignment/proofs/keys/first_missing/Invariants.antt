use Prim.Native.Nat.{◌+◌, ◌-◌, ◌*◌}
use Rattle.table.specs.Contents.{contents}
use Rattle.assignment.proofs.keys.KeyLoops.{Missing}
use Rattle.assignment.proofs.keys.first_missing.Given as goal

abbrev pub invariant-loop-i : goal.invariant-loop-i
invariant-loop-i l = Missing (contents l.tables) l.object l.order l.total l.from l.count (l.from + l.i * 2) (l.count - l.i)
