use Rattle.c_calls.proofs.Rows.{run_is}
use borrow.Author.Rules.{rules}
use Rattle.c_calls.proofs.answer.run_row.Goals as goal

pub returns-in-Ok-Match : goal.returns-in-Ok-Match
returns-in-Ok-Match c = search (run_is, rules)

pub returns-in-Ok-NoMatch : goal.returns-in-Ok-NoMatch
returns-in-Ok-NoMatch c = search (run_is, rules)

pub returns-in-Err : goal.returns-in-Err
returns-in-Err c = search (run_is, rules)
