use Rattle.columns.proofs.write.Writing.{Writing}
use Rattle.columns.proofs.write.write_rest.Given as goal

abbrev pub invariant-loop-left : goal.invariant-loop-left
invariant-loop-left l = Writing l.initial.out l.at l.above l.out l.left l.rest
