use Rattle.table.proofs.tests.Fresh.{Distinct}
use Rattle.table.proofs.distinct.distinct_entries.Given as goal

abbrev pub invariant-loop-i : goal.invariant-loop-i
invariant-loop-i l = Distinct l.children l.i l.used
