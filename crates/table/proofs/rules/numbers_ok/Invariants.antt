use Prim.Native.Nat.{◌/◌}
use mathlib.Core.List.{[]}
use lib.ListN.{length}
use Rattle.table.specs.Tables.{tables}
use Rattle.table.specs.Rules.{number_ok}
use Rattle.table.proofs.tests.Scan.{Scan}
use Rattle.table.proofs.rules.numbers_ok.Given as goal

abbrev pub invariant-loop-i : goal.invariant-loop-i
invariant-loop-i l = Scan (number_ok (tables [] [] l.numbers [] [] [])) 0 (length l.numbers / 2) l.i
