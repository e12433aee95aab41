use Prim.Native.Nat.{◌*◌}
use Rattle.sheet.proofs.lines.LineTests.{Going}
use Rattle.sheet.specs.Lines.{number_line_ok, number_word}
use Rattle.sheet.proofs.lines.read_numbers.Given as goal

abbrev pub invariant-loop-i : goal.invariant-loop-i
invariant-loop-i l = Going (number_line_ok l.sheet l.at) (number_word l.sheet l.at) l.count l.i (l.i * 2) l.initial.out l.out
