use Prim.Native.Nat.{◌≤◌}
use Rattle.table.proofs.tests.Scan.{Scan}
use Rattle.body.specs.Lines.{line_count, is_line_at}
use Rattle.body.proofs.lines.are_lines.Given as goal

abbrev pub invariant-loop-i : goal.invariant-loop-i
invariant-loop-i l = Scan (is_line_at l.lines) 0 l.count l.i × (l.count ≤ line_count l.lines)
