use Rattle.table.proofs.tests.Bytes.{by_order, left_none, left_literal}
use borrow.Author.Rules.{rules}
use Rattle.table.proofs.reading.compare_literals.Goals as goal

pub returns-in_default : goal.returns-in_default
returns-in_default c = search (left_none by_order, rules)

pub returns : goal.returns
returns c = search (left_literal by_order, rules)
