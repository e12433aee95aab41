use Rattle.page.proofs.PageLines.{Lining, blank_line}
use Rattle.page.proofs.lines.write_blank_lines.Given as goal

abbrev pub invariant-loop-line : goal.invariant-loop-line
invariant-loop-line l = Lining blank_line l.initial.out l.at l.count l.line l.out
