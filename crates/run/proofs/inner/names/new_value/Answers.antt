use Rattle.run.proofs.Valued.{old_value, set_value}
use borrow.Author.Rules.{rules}
use Rattle.run.proofs.inner.names.new_value.Goals as goal

pub returns-then-binder-eq0 : goal.returns-then-binder-eq0
returns-then-binder-eq0 c = search (old_value, rules)

pub returns : goal.returns
returns c = search (set_value, rules)
