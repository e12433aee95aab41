use Rattle.planner.proofs.laws.Names.{node_marked, node_free}
use borrow.Author.Rules.{rules}
use Rattle.planner.proofs.inner.names.marked_node.Goals as goal

pub returns-then-flags-name-eq1 : goal.returns-then-flags-name-eq1
returns-then-flags-name-eq1 c = search (node_marked, rules)

pub returns : goal.returns
returns c = search (node_free, rules)
