use Rattle.run.proofs.Valued.{Starting}
use Rattle.run.proofs.inner.names.start_list.Given as goal

abbrev pub invariant-loop-i : goal.invariant-loop-i
invariant-loop-i l = Starting l.names l.scope l.scoping l.values l.count l.i l.list
