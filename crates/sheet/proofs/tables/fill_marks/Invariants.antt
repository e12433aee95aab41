use Rattle.sheet.proofs.tables.NameWords.{Marking}
use Rattle.sheet.proofs.tables.fill_marks.Given as goal

abbrev pub invariant-loop-x : goal.invariant-loop-x
invariant-loop-x l = Marking l.rows l.count l.x l.initial.marks l.marks
