use Rattle.table.proofs.tests.Clauses.{node_low, node_high}
use borrow.Author.Rules.{rules}
use Rattle.table.proofs.reading.is_node.Goals as goal

pub returns-then-node-lt1 : goal.returns-then-node-lt1
returns-then-node-lt1 c = search (node_low, rules)

pub returns : goal.returns
returns c = search (node_high, rules)
