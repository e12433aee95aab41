use Rattle.table.proofs.tests.Clauses.{span_turned, span_in_lem}
use borrow.Author.Rules.{rules}
use Rattle.table.proofs.inner.node.span_ok.Goals as goal

pub returns-then-end-start : goal.returns-then-end-start
returns-then-end-start c = search (span_turned, rules)

pub returns : goal.returns
returns c = search (span_in_lem, rules)
