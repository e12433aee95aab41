use Rattle.body.proofs.PlanLoops.{BindLeft}
use Rattle.body.proofs.binding.bind_plan.Given as goal

abbrev pub invariant-loop-i : goal.invariant-loop-i
invariant-loop-i l = BindLeft l.nodes l.initial.here l.initial.states l.plan l.count l.i l.here l.states
