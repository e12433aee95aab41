use Rattle.run.proofs.Valued.{value_unmet, value_unbound, value_listed}
use borrow.Author.Rules.{rules}
use Rattle.run.proofs.inner.names.has_value.Goals as goal

pub returns-then-met-eq0 : goal.returns-then-met-eq0
returns-then-met-eq0 c = search (value_unmet, rules)

pub returns-then-listed-eq0 : goal.returns-then-listed-eq0
returns-then-listed-eq0 c = search (value_unbound, rules)

pub returns : goal.returns
returns c = search (value_listed, rules)
