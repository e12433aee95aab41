use Prim.Native.Nat.{◌*◌}
use Rattle.sheet.proofs.lines.LineTests.{Going}
use Rattle.sheet.specs.Lines.{line_ok, line_length, column_word_at}
use Rattle.sheet.proofs.lines.read_lines.Given as goal

abbrev pub invariant-loop-i : goal.invariant-loop-i
invariant-loop-i l = Going (line_ok l.sheet l.at l.columns) (column_word_at l.sheet l.at (line_length l.columns) l.columns) l.count l.i (l.i * l.columns) l.initial.out l.out
