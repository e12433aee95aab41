use Rattle.run.proofs.Valued.{Setting}
use Rattle.run.proofs.inner.names.set_names.Given as goal

abbrev pub invariant-loop-i : goal.invariant-loop-i
invariant-loop-i l = Setting l.names l.binders l.list l.initial.values l.count l.i l.values
