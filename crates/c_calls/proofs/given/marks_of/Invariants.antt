use lib.ListN.{get_or}
use Rattle.base.proofs.Filling.{Filling}
use Rattle.c_calls.proofs.given.marks_of.Given as goal

abbrev pub invariant-loop-i : goal.invariant-loop-i
invariant-loop-i l = Filling (λ k. get_or l.marks k 0) 128 l.i l.all
