use Rattle.some_in.proofs.Answers.{key_refused, ended_low, key_answered}
use borrow.Author.Rules.{rules}
use Rattle.some_in.proofs.plan_key.Goals as goal

pub plan_value-requires : goal.plan_value-requires
plan_value-requires c = search (ended_low, rules)

pub returns-in-Ok : goal.returns-in-Ok
returns-in-Ok c = search (key_answered, rules)

pub returns-in-Err : goal.returns-in-Err
returns-in-Err c = search (key_refused, rules)
