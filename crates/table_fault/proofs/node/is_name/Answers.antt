use Rattle.table_fault.proofs.Tests.{name_low, name_high}
use borrow.Author.Rules.{rules}
use Rattle.table_fault.proofs.node.is_name.Goals as goal

pub returns-then-name-lt1 : goal.returns-then-name-lt1
returns-then-name-lt1 c = search (name_low, rules)

pub returns : goal.returns
returns c = search (name_high, rules)
