use Rattle.table.proofs.trees.Deepest.{Deepening}
use Rattle.table.proofs.inner.depth.deepest_of.Given as goal

abbrev pub invariant-loop-i : goal.invariant-loop-i
invariant-loop-i l = Deepening l.children l.depths l.first l.count l.i l.deep
