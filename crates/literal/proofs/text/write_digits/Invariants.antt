use Rattle.literal.proofs.Texts.{Writing}
use Rattle.literal.proofs.text.write_digits.Given as goal

abbrev pub invariant-loop-left : goal.invariant-loop-left
invariant-loop-left l = Writing l.initial.out l.start l.count l.size l.out l.left l.rest
