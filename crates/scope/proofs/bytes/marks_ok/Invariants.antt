use Rattle.scope.proofs.Small.{Small}
use Rattle.scope.proofs.bytes.marks_ok.Given as goal

abbrev pub invariant-loop-mark : goal.invariant-loop-mark
invariant-loop-mark l = Small l.mark-items l.small l.mark-index
