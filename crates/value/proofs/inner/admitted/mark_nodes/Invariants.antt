use Rattle.table.specs.Contents.{contents}
use Rattle.value.proofs.Marking.{MarkingNodes}
use Rattle.value.proofs.inner.admitted.mark_nodes.Given as goal

abbrev pub invariant-loop-n : goal.invariant-loop-n
invariant-loop-n l = MarkingNodes (contents l.tables) l.admit l.n l.marks
