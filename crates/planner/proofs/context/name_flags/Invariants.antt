use Rattle.planner.proofs.laws.States.{Flagging}
use Rattle.planner.proofs.context.name_flags.Given as goal

abbrev pub invariant-loop-i : goal.invariant-loop-i
invariant-loop-i l = Flagging l.names l.text l.scope l.scoping l.defined l.binders l.i l.flags
