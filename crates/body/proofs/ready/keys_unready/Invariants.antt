use Rattle.table.specs.Contents.{contents}
use Rattle.body.proofs.PlanLoops.{KeysLeft}
use Rattle.body.proofs.ready.keys_unready.Given as goal

abbrev pub invariant-loop-i : goal.invariant-loop-i
invariant-loop-i l = KeysLeft (contents l.tables) l.initial.here l.initial.known l.plan l.count l.i l.earlier l.here l.ready l.known
