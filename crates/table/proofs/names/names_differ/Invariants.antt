use Rattle.table.proofs.tests.NameOrder.{Naming}
use Rattle.table.proofs.names.names_differ.Given as goal

abbrev pub invariant-loop-i : goal.invariant-loop-i
invariant-loop-i l = Naming l.names l.text l.order l.i
