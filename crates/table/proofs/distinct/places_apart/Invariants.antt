use Rattle.table.proofs.tests.Fresh.{Apart}
use Rattle.table.proofs.distinct.places_apart.Given as goal

abbrev pub invariant-loop-n : goal.invariant-loop-n
invariant-loop-n l = Apart l.nodes l.n l.used
