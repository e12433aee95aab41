use Prim.Native.Nat.{◌+◌, ◌*◌}
use Rattle.sheet.proofs.lines.LineTests.{Going}
use Rattle.sheet.specs.Lines.{column_ok, line_length, column_word_at}
use Rattle.sheet.proofs.lines.read_line.Given as goal

abbrev pub invariant-loop-j : goal.invariant-loop-j
invariant-loop-j l = Going (column_ok l.sheet (l.at + l.i * line_length l.columns)) (column_word_at l.sheet l.at (line_length l.columns) l.columns) l.columns l.j (l.i * l.columns + l.j) l.initial.out l.out
