use Rattle.sheet.proofs.source.SourceTests.{no_node, past_node, node_there}
use borrow.Author.Rules.{rules}
use Rattle.sheet.proofs.source.node_word.Goals as goal

pub returns-then-node-eq0 : goal.returns-then-node-eq0
returns-then-node-eq0 c = search (no_node, rules)

pub returns-then-counts-i : goal.returns-then-counts-i
returns-then-counts-i c = search (past_node, rules)

pub returns : goal.returns
returns c = search (node_there, rules)
