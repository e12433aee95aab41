use Rattle.scope.specs.Scope.{is_unbound}
use Rattle.run.proofs.Valued.{Having}
use Rattle.run.proofs.inner.names.all_have_values.Given as goal

abbrev pub invariant-loop-i : goal.invariant-loop-i
invariant-loop-i l = Having l.names l.values l.met (is_unbound l.scope l.scoping) l.count l.i
