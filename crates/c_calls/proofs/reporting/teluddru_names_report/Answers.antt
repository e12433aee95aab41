use Rattle.c_calls.proofs.Called.{report_fits, report_refused, report_done}
use borrow.Author.Rules.{rules}
use Rattle.c_calls.proofs.reporting.teluddru_names_report.Goals as goal

pub returns-in-Err : goal.returns-in-Err
returns-in-Err c = search (report_refused, rules)

pub tell-requires : goal.tell-requires
tell-requires c = search (report_fits, rules)

pub returns : goal.returns
returns c = search (report_done, rules)
