use Rattle.c_calls.proofs.Rows.{run_refusal_is, run_table}
use borrow.Author.Rules.{rules}
use Rattle.c_calls.proofs.answer.run_refusal_row.Goals as goal

pub returns-in-TableRefused : goal.returns-in-TableRefused
returns-in-TableRefused c = search (run_table, rules)

pub returns-in-RootOutside : goal.returns-in-RootOutside
returns-in-RootOutside c = search (run_refusal_is, rules)

pub returns-in-ListTooShort : goal.returns-in-ListTooShort
returns-in-ListTooShort c = search (run_refusal_is, rules)

pub returns-in-PatternNotSimple : goal.returns-in-PatternNotSimple
returns-in-PatternNotSimple c = search (run_refusal_is, rules)

pub returns-in-NotAValue : goal.returns-in-NotAValue
returns-in-NotAValue c = search (run_refusal_is, rules)

pub returns-in-NameWithoutValue : goal.returns-in-NameWithoutValue
returns-in-NameWithoutValue c = search (run_refusal_is, rules)

pub returns-in-PlanTooLarge : goal.returns-in-PlanTooLarge
returns-in-PlanTooLarge c = search (run_refusal_is, rules)
