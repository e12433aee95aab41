use Rattle.table.specs.Contents.{contents}
use Rattle.body.proofs.BodySteps.{BodyLeft}
use Rattle.body.proofs.plan_lines.Given as goal

abbrev pub invariant-loop-i : goal.invariant-loop-i
invariant-loop-i l = BodyLeft (contents l.tables) l.initial.here l.lines l.initial.plan l.i l.here l.answer l.plan l.states
