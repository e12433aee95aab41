use Rattle.planner.specs.Layout.{binds_any}
use Rattle.assignment.proofs.entries.Reading.{Scanning}
use Rattle.assignment.proofs.preview.introduces_binding.Given as goal

abbrev pub invariant-loop-i : goal.invariant-loop-i
invariant-loop-i l = Scanning binds_any l.scratch l.count l.i
