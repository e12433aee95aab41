use Rattle.run.proofs.Checking.{listed_none, listed_some}
use borrow.Author.Rules.{rules}
use Rattle.run.proofs.inner.checks.is_listed_value.Goals as goal

pub returns-then-node-eq0 : goal.returns-then-node-eq0
returns-then-node-eq0 c = search (listed_none, rules)

pub returns : goal.returns
returns c = search (listed_some, rules)
