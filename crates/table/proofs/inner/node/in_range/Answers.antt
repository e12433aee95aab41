use Rattle.table.proofs.tests.Clauses.{range_past, range_in}
use borrow.Author.Rules.{rules}
use Rattle.table.proofs.inner.node.in_range.Goals as goal

pub returns-then-length-start : goal.returns-then-length-start
returns-then-length-start c = search (range_past, rules)

pub returns : goal.returns
returns c = search (range_in, rules)
