use Prim.Native.Nat.{◌+◌, ◌-◌}
use Rattle.table.specs.Contents.{contents}
use Rattle.some_in.proofs.Collections.{Looking}
use Rattle.some_in.proofs.collection.any_fits.Given as goal

abbrev pub invariant-loop-place : goal.invariant-loop-place
invariant-loop-place l = Looking l.reading (contents l.tables) l.pattern l.at l.left l.place (l.at + l.left - l.place)
