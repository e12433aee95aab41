use Rattle.scope.specs.Bytes.{mark_bit}
use Rattle.scope.proofs.Words.{Packing}
use Rattle.scope.proofs.bytes.mark_word.Given as goal

abbrev pub invariant-loop-left : goal.invariant-loop-left
invariant-loop-left l = Packing (mark_bit l.marks l.place) l.from l.left l.word
