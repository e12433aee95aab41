use Rattle.table_fault.proofs.Earlier.{Unmet}
use Rattle.table_fault.proofs.repeats.is_new_entry.Given as goal

abbrev pub invariant-loop-i : goal.invariant-loop-i
invariant-loop-i l = Unmet l.children l.place l.i
