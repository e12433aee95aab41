use Rattle.c_calls.proofs.NamesTold.{name_is, name_table}
use borrow.Author.Rules.{rules}
use Rattle.c_calls.proofs.naming.name_row.Goals as goal

pub returns-in-Ok-Existing : goal.returns-in-Ok-Existing
returns-in-Ok-Existing c = search (name_is, rules)

pub returns-in-Ok-Added : goal.returns-in-Ok-Added
returns-in-Ok-Added c = search (name_is, rules)

pub returns-in-Err-TableRefused : goal.returns-in-Err-TableRefused
returns-in-Err-TableRefused c = search (name_table, rules)

pub returns-in-Err-NoPlace : goal.returns-in-Err-NoPlace
returns-in-Err-NoPlace c = search (name_is, rules)
