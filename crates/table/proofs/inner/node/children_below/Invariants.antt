use mathlib.Core.List.{[]}
use Rattle.table.specs.Tables.{tables}
use Rattle.table.specs.Rules.{below_at}
use Rattle.table.proofs.tests.Scan.{Scan}
use Rattle.table.proofs.inner.node.children_below.Given as goal

abbrev pub invariant-loop-i : goal.invariant-loop-i
invariant-loop-i l = Scan (below_at (tables l.nodes l.children [] [] [] []) l.node) l.first l.count l.i
