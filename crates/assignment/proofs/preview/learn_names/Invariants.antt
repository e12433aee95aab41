use Rattle.assignment.proofs.preview.Learning.{Learning}
use Rattle.assignment.proofs.preview.learn_names.Given as goal

abbrev pub invariant-loop-i : goal.invariant-loop-i
invariant-loop-i l = Learning l.initial.states l.binders l.i l.states
