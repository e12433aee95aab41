use Rattle.report.proofs.Reporting.{MarkingBound}
use Rattle.report.proofs.mark_bound.Given as goal

abbrev pub invariant-loop-i : goal.invariant-loop-i
invariant-loop-i l = MarkingBound l.nodes l.scratch l.count l.initial.list l.i l.list
