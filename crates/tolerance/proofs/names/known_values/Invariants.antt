use Rattle.tolerance.proofs.nodes.Beginning.{Knowing}
use Rattle.tolerance.proofs.names.known_values.Given as goal

abbrev pub invariant-loop-i : goal.invariant-loop-i
invariant-loop-i l = Knowing l.names l.values l.states l.count l.i l.list
