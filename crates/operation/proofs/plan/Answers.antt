use Rattle.operation.proofs.Versions.{plan_reserved, plan_unreserved}
use borrow.Author.Rules.{rules}
use Rattle.operation.proofs.plan.Goals as goal

pub returns-then-name-ne0 : goal.returns-then-name-ne0
returns-then-name-ne0 c = search (plan_reserved, rules)

pub returns : goal.returns
returns c = search (plan_unreserved, rules)
