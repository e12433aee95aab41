use Rattle.table.specs.Contents.{contents}
use Rattle.body.proofs.PlanLoops.{PairsLeft}
use Rattle.body.proofs.ready.pairs_unready.Given as goal

abbrev pub invariant-loop-i : goal.invariant-loop-i
invariant-loop-i l = PairsLeft (contents l.tables) l.initial.here l.initial.known l.plan l.count l.i l.here l.known
