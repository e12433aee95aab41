use Rattle.table.specs.Contents.{contents}
use Prim.Native.Nat.{◌/◌}
use lib.ListN.{length}
use Rattle.table.specs.code.Passes.{head_ok_at}
use Rattle.table.proofs.tests.Scan.{Scan}
use Rattle.table.proofs.nodes.heads_ok.Given as goal

abbrev pub invariant-loop-i : goal.invariant-loop-i
invariant-loop-i l = Scan (head_ok_at (contents l.tables)) 0 (length l.tables.nodes.now / 5) l.i
