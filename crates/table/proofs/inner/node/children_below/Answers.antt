use Rattle.table.proofs.tests.Scan.{scan_start}
use Rattle.table.proofs.tests.Clauses.{below_not, children_fail, children_on, children_end}
use borrow.Author.Rules.{rules}
use Rattle.table.proofs.inner.node.children_below.Goals as goal

pub loop-i-init : goal.loop-i-init
loop-i-init c = search (scan_start, rules)

pub returns-then-node-child : goal.returns-then-node-child
returns-then-node-child c = search (children_fail, below_not, rules)

pub loop-i-preserved : goal.loop-i-preserved
loop-i-preserved c = search (children_on, rules)

pub returns : goal.returns
returns c = search (children_end, rules)
