use Rattle.tolerance.proofs.nodes.RangeTests.{no_node, some_node, node_low}
use borrow.Author.Rules.{rules}
use Rattle.tolerance.proofs.ranges.number_at.Goals as goal

pub returns-then-node-eq0 : goal.returns-then-node-eq0
returns-then-node-eq0 c = search (no_node, rules)

pub overflow_sub-node : goal.overflow_sub-node
overflow_sub-node c = search (node_low, rules)

pub returns : goal.returns
returns c = search (some_node, rules)
