use Rattle.run.proofs.Checking.{Listing}
use Rattle.run.proofs.inner.checks.values_listed.Given as goal

abbrev pub invariant-loop-i : goal.invariant-loop-i
invariant-loop-i l = Listing l.nodes l.names l.marks l.values l.count l.i
