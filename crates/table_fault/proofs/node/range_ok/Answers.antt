use Rattle.table_fault.proofs.Tests.{range_string, range_raw, range_number, range_bool, range_name, range_array, range_set, range_object, range_none}
use borrow.Author.Rules.{rules}
use Rattle.table_fault.proofs.node.range_ok.Goals as goal

pub returns-in-1 : goal.returns-in-1
returns-in-1 c = search (range_string, rules)

pub returns-in-2 : goal.returns-in-2
returns-in-2 c = search (range_raw, rules)

pub returns-in-3 : goal.returns-in-3
returns-in-3 c = search (range_number, rules)

pub returns-in-4 : goal.returns-in-4
returns-in-4 c = search (range_bool, rules)

pub returns-in-6 : goal.returns-in-6
returns-in-6 c = search (range_name, rules)

pub returns-in-7 : goal.returns-in-7
returns-in-7 c = search (range_array, rules)

pub returns-in-8 : goal.returns-in-8
returns-in-8 c = search (range_set, rules)

pub returns-in-9 : goal.returns-in-9
returns-in-9 c = search (range_object, rules)

pub returns-in_default : goal.returns-in_default
returns-in_default c = search (range_none, rules)
