use Rattle.table.proofs.trees.Deepest.{Deep}
use Rattle.table.proofs.inner.depth.depths_ok.Given as goal

abbrev pub invariant-loop-n : goal.invariant-loop-n
invariant-loop-n l = Deep l.nodes l.children l.total l.n l.depths
