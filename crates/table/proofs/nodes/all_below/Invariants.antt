use Prim.Native.Nat.{◌/◌}
use mathlib.Core.List.{[]}
use lib.ListN.{length}
use Rattle.table.specs.Tables.{tables}
use Rattle.table.specs.code.Passes.{children_below_at}
use Rattle.table.proofs.tests.Scan.{Scan}
use Rattle.table.proofs.nodes.all_below.Given as goal

abbrev pub invariant-loop-i : goal.invariant-loop-i
invariant-loop-i l = Scan (children_below_at (tables l.nodes l.children [] [] [] [])) 0 (length l.nodes / 5) l.i
