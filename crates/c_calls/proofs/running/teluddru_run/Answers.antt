use Rattle.c_calls.proofs.Called.{run_fits, run_refused, run_done}
use borrow.Author.Rules.{rules}
use Rattle.c_calls.proofs.running.teluddru_run.Goals as goal

pub returns-in-Err : goal.returns-in-Err
returns-in-Err c = search (run_refused, rules)

pub tell-requires : goal.tell-requires
tell-requires c = search (run_fits, rules)

pub returns : goal.returns
returns c = search (run_done, rules)
