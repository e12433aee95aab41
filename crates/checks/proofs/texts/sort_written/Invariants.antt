use Rattle.table.specs.Contents.{contents}
use Rattle.checks.proofs.TextLoops.{SortingWritten}
use Rattle.checks.proofs.texts.sort_written.Given as goal

abbrev pub invariant-loop-i : goal.invariant-loop-i
invariant-loop-i l = SortingWritten (contents l.tables) l.first l.count l.initial.keys l.keys l.size l.i
