use Rattle.some_in.proofs.Answers.{plan_refused, plan_validated}
use borrow.Author.Rules.{rules}
use Rattle.some_in.proofs.plan_validated.Goals as goal

pub returns-then-name-ne0 : goal.returns-then-name-ne0
returns-then-name-ne0 c = search (plan_refused, rules)

pub returns : goal.returns
returns c = search (plan_validated, rules)
