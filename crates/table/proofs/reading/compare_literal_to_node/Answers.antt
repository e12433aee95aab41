use Rattle.table.proofs.tests.Bytes.{by_order, right_none, right_literal}
use borrow.Author.Rules.{rules}
use Rattle.table.proofs.reading.compare_literal_to_node.Goals as goal

pub returns-in_default : goal.returns-in_default
returns-in_default c = search (right_none by_order, rules)

pub returns : goal.returns
returns c = search (right_literal by_order, rules)
