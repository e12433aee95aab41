use Rattle.body.proofs.LineSteps.{line_refused, line_held, line_settled}
use borrow.Author.Rules.{rules}
use Rattle.body.proofs.plan_line.Goals as goal

pub settle_line-requires : goal.settle_line-requires
settle_line-requires c = search (line_held _ _ _ 0 c.plan.ensures c.in-Ok.is, rules)

pub returns-in-Ok : goal.returns-in-Ok
returns-in-Ok c = line_settled _ _ _ _ c.plan.ensures c.in-Ok.is c.settle_line.ensures

pub returns-in-Err : goal.returns-in-Err
returns-in-Err c = line_refused _ _ _ _ c.plan.ensures c.in-Err.is c.requires
