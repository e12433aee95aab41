use mathlib.Core.List.{[]}
use lib.ListN.{length}
use Rattle.table.specs.Tables.{tables}
use Rattle.table.specs.Rules.{entry_ok}
use Rattle.table.proofs.tests.Scan.{Scan}
use Rattle.table.proofs.rules.entries_ok.Given as goal

abbrev pub invariant-loop-place : goal.invariant-loop-place
invariant-loop-place l = Scan (entry_ok (tables l.nodes l.children [] [] [] [])) 0 (length l.children) l.place
