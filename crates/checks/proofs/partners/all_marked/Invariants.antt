use Rattle.checks.proofs.ObjectFields.{Looking}
use Rattle.checks.proofs.partners.all_marked.Given as goal

abbrev pub invariant-loop-q : goal.invariant-loop-q
invariant-loop-q l = Looking l.marks l.size l.q
