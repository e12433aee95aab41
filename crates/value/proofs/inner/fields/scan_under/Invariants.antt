use Prim.Native.Nat.{◌+◌, ◌-◌, ◌*◌}
use Rattle.table.specs.Contents.{contents}
use Rattle.table.specs.Decode.{literal_at}
use Rattle.value.proofs.Under.{Seeking}
use Rattle.value.proofs.inner.fields.scan_under.Given as goal

abbrev pub invariant-loop-i : goal.invariant-loop-i
invariant-loop-i l = Seeking (contents l.tables) (literal_at (contents l.tables) l.key) l.at l.left (l.at + l.i * 2) (l.left - l.i)
