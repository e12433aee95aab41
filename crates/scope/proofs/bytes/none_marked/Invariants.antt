use Rattle.scope.specs.Bytes.{mark_bit}
use Rattle.scope.proofs.Words.{Unmarked}
use Rattle.scope.proofs.bytes.none_marked.Given as goal

abbrev pub invariant-loop-i : goal.invariant-loop-i
invariant-loop-i l = Unmarked (mark_bit l.marks l.place) l.from l.none l.i
