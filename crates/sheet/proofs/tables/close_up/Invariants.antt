use Rattle.sheet.specs.code.Post.{name_word, Overlaid}
use Rattle.sheet.proofs.tables.close_up.Given as goal

abbrev pub invariant-loop-w : goal.invariant-loop-w
invariant-loop-w l = Overlaid (name_word l.initial.rows) l.w l.initial.rows l.rows
