use Rattle.table_fault.proofs.Earlier.{Unused}
use Rattle.table_fault.proofs.repeats.has_new_places.Given as goal

abbrev pub invariant-loop-other : goal.invariant-loop-other
invariant-loop-other l = Unused l.nodes l.node l.first l.count l.other
