use Rattle.c_calls.proofs.Rows.{report_is, report_table}
use borrow.Author.Rules.{rules}
use Rattle.c_calls.proofs.answer.report_row.Goals as goal

pub returns-in-Ok : goal.returns-in-Ok
returns-in-Ok c = search (report_is, rules)

pub returns-in-Err-TableRefused : goal.returns-in-Err-TableRefused
returns-in-Err-TableRefused c = search (report_table, rules)

pub returns-in-Err-RootOutside : goal.returns-in-Err-RootOutside
returns-in-Err-RootOutside c = search (report_is, rules)

pub returns-in-Err-ListTooShort : goal.returns-in-Err-ListTooShort
returns-in-Err-ListTooShort c = search (report_is, rules)
