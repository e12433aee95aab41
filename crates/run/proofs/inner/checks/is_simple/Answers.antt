use Rattle.run.proofs.Checking.{simple_told}
use borrow.Author.Rules.{rules}
use Rattle.run.proofs.inner.checks.is_simple.Goals as goal

pub returns : goal.returns
returns c = search (simple_told, rules)
