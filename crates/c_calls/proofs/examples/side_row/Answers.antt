use Rattle.c_calls.proofs.Exampled.{side_is, side_table}
use borrow.Author.Rules.{rules}
use Rattle.c_calls.proofs.examples.side_row.Goals as goal

pub returns-in-TableRefused : goal.returns-in-TableRefused
returns-in-TableRefused c = search (side_table, rules)

pub returns-in-RootOutside : goal.returns-in-RootOutside
returns-in-RootOutside c = search (side_is, rules)

pub returns-in-ListTooShort : goal.returns-in-ListTooShort
returns-in-ListTooShort c = search (side_is, rules)

pub returns-in-PatternNotSimple : goal.returns-in-PatternNotSimple
returns-in-PatternNotSimple c = search (side_is, rules)

pub returns-in-NotAValue : goal.returns-in-NotAValue
returns-in-NotAValue c = search (side_is, rules)

pub returns-in-NameWithoutValue : goal.returns-in-NameWithoutValue
returns-in-NameWithoutValue c = search (side_is, rules)
