use Rattle.page.proofs.EntryLines.{Entering}
use Rattle.page.proofs.lines.write_entries.Given as goal

abbrev pub invariant-loop-i : goal.invariant-loop-i
invariant-loop-i l = Entering l.sheet l.plan l.initial.out l.count l.i l.out
