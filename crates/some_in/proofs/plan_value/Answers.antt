use Rattle.some_in.proofs.Answers.{value_refused, value_closed}
use borrow.Author.Rules.{rules}
use Rattle.some_in.proofs.plan_value.Goals as goal

pub returns-in-Ok : goal.returns-in-Ok
returns-in-Ok c = search (value_closed, rules)

pub returns-in-Err : goal.returns-in-Err
returns-in-Err c = search (value_refused, rules)
