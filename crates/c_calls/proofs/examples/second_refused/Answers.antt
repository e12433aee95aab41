use Rattle.c_calls.proofs.Exampled.{second_first, second_marks}
use borrow.Author.Rules.{rules}
use Rattle.c_calls.proofs.examples.second_refused.Goals as goal

pub returns-in-Err : goal.returns-in-Err
returns-in-Err c = search (second_first, rules)

pub returns-in-Ok : goal.returns-in-Ok
returns-in-Ok c = search (second_marks, rules)
