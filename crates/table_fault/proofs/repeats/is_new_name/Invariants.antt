use Rattle.table_fault.proofs.Earlier.{Differing}
use Rattle.table_fault.proofs.repeats.is_new_name.Given as goal

abbrev pub invariant-loop-other : goal.invariant-loop-other
invariant-loop-other l = Differing l.names l.text l.name l.other
