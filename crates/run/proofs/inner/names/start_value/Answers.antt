use Rattle.run.proofs.Valued.{starts_none, starts_listed}
use borrow.Author.Rules.{rules}
use Rattle.run.proofs.inner.names.start_value.Goals as goal

pub returns-then-is_unbound : goal.returns-then-is_unbound
returns-then-is_unbound c = search (starts_none, rules)

pub returns : goal.returns
returns c = search (starts_listed, rules)
