use Rattle.table.proofs.tests.Fresh.{Marking}
use Rattle.table.proofs.distinct.mark_places.Given as goal

abbrev pub invariant-loop-i : goal.invariant-loop-i
invariant-loop-i l = Marking l.first l.count l.i l.initial.used l.used
