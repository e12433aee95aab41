use Rattle.table_fault.proofs.Tests.{unused_number, unused_bool, unused_name, unused_null, unused_other, unused_none}
use borrow.Author.Rules.{rules}
use Rattle.table_fault.proofs.node.unused_zero.Goals as goal

pub returns-in-3 : goal.returns-in-3
returns-in-3 c = search (unused_number, rules)

pub returns-in-4 : goal.returns-in-4
returns-in-4 c = search (unused_bool, rules)

pub returns-in-6 : goal.returns-in-6
returns-in-6 c = search (unused_name, rules)

pub returns-in-5 : goal.returns-in-5
returns-in-5 c = search (unused_null, rules)

pub returns-in-10 : goal.returns-in-10
returns-in-10 c = search (unused_other, rules)

pub returns-in_default : goal.returns-in_default
returns-in_default c = search (unused_none, rules)
