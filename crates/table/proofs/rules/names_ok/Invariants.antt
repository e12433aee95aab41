use Prim.Native.Nat.{◌/◌}
use mathlib.Core.List.{[]}
use lib.ListN.{length}
use Rattle.table.specs.Tables.{tables}
use Rattle.table.specs.Rules.{name_ok_at}
use Rattle.table.proofs.tests.Scan.{Scan}
use Rattle.table.proofs.rules.names_ok.Given as goal

abbrev pub invariant-loop-i : goal.invariant-loop-i
invariant-loop-i l = Scan (name_ok_at (tables [] [] [] l.names [] l.text)) 0 (length l.names / 2) l.i
