use Rattle.assignment.specs.code.Previewing.{ReadAsks}
use Rattle.assignment.specs.Assignment.{first_same_scope}
use Rattle.assignment.proofs.entries.Reading.{Scanning}
use Rattle.assignment.proofs.entries.first_same_scope.Given as goal

abbrev pub invariant-loop-i : goal.invariant-loop-i
invariant-loop-i l = Scanning (first_same_scope l.nodes l.scope) l.scratch l.count l.i × ReadAsks l.scratch l.count
