use Rattle.body.proofs.PlanLoops.{bind_start, bind_on, bind_end}
use borrow.Author.Rules.{rules}
use Rattle.body.proofs.binding.bind_plan.Goals as goal

pub loop-i-init : goal.loop-i-init
loop-i-init c = search (bind_start, rules)

pub loop-i-preserved : goal.loop-i-preserved
loop-i-preserved c = search (bind_on, rules)

pub returns : goal.returns
returns c = search (bind_end, rules)
