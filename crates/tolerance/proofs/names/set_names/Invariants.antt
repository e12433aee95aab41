use Rattle.tolerance.proofs.nodes.Beginning.{Setting}
use Rattle.tolerance.proofs.names.set_names.Given as goal

abbrev pub invariant-loop-i : goal.invariant-loop-i
invariant-loop-i l = Setting l.names l.list l.initial.values l.count l.i l.values
