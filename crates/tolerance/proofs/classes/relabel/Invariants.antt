use Rattle.tolerance.proofs.nodes.Joining.{Relabelling}
use Rattle.tolerance.proofs.classes.relabel.Given as goal

abbrev pub invariant-loop-label : goal.invariant-loop-label
invariant-loop-label l = Relabelling l.initial.labels l.to l.from l.label-index l.labels
