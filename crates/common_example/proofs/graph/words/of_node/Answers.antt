use Rattle.common_example.proofs.loops.graph.GraphLoops.{of_none, of_some}
use borrow.Author.Rules.{rules}
use Rattle.common_example.proofs.graph.words.of_node.Goals as goal

pub returns-then-node-eq0 : goal.returns-then-node-eq0
returns-then-node-eq0 c = search (of_none, rules)

pub returns : goal.returns
returns c = search (of_some, rules)
