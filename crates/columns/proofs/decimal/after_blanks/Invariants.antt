use Rattle.columns.proofs.read.Reading.{Skipping}
use Rattle.columns.proofs.decimal.after_blanks.Given as goal

abbrev pub invariant-loop-i : goal.invariant-loop-i
invariant-loop-i l = Skipping l.bytes l.i
