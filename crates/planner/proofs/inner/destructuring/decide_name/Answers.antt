use Rattle.planner.proofs.destructuring.FirstPass.{name_known, name_seen, name_binds}
use borrow.Author.Rules.{rules}
use Rattle.planner.proofs.inner.destructuring.decide_name.Goals as goal

pub returns-then-binders-at-eq0 : goal.returns-then-binders-at-eq0
returns-then-binders-at-eq0 c = search (name_binds, rules)

pub returns-else-binders-at-eq0 : goal.returns-else-binders-at-eq0
returns-else-binders-at-eq0 c = search (name_seen, rules)

pub returns-else-states-at-eq1 : goal.returns-else-states-at-eq1
returns-else-states-at-eq1 c = search (name_known, rules)
