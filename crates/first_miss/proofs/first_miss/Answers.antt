use Rattle.first_miss.proofs.Answered.{miss_refused, ask_start, ask_walk, miss_matched, miss_missed}
use borrow.Author.Rules.{rules}
use Rattle.first_miss.proofs.first_miss.Goals as goal

pub returns-in_err-check_run : goal.returns-in_err-check_run
returns-in_err-check_run c = search (miss_refused, rules)

pub start_list-list-requires : goal.start_list-list-requires
start_list-list-requires c = ask_start c.check_run.ensures c.in_ok-check_run.was

pub walk-requires : goal.walk-requires
walk-requires c = ask_walk c.check_run.ensures c.in_ok-check_run.was c.start_list-list.ensures

pub returns-in-Ok : goal.returns-in-Ok
returns-in-Ok c = miss_matched c.check_run.ensures c.in_ok-check_run.was c.start_list-list.ensures c.walk.ensures c.in-Ok.is

pub returns-in-Err : goal.returns-in-Err
returns-in-Err c = miss_missed c.check_run.ensures c.in_ok-check_run.was c.start_list-list.ensures c.walk.ensures c.in-Err.is
