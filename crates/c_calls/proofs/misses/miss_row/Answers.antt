use Rattle.c_calls.proofs.MissCalls.{miss_is, miss_run}
use borrow.Author.Rules.{rules}
use Rattle.c_calls.proofs.misses.miss_row.Goals as goal

pub returns-in-Ok-None : goal.returns-in-Ok-None
returns-in-Ok-None c = search (miss_is, rules)

pub returns-in-Ok-Some : goal.returns-in-Ok-Some
returns-in-Ok-Some c = search (miss_is, rules)

pub returns-in-Err : goal.returns-in-Err
returns-in-Err c = search (miss_run, rules)
