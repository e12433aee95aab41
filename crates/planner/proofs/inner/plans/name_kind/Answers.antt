use Rattle.planner.proofs.destructuring.SecondPass.{kind_ignores, kind_binds, kind_compares}
use borrow.Author.Rules.{rules}
use Rattle.planner.proofs.inner.plans.name_kind.Goals as goal

pub returns-then-states-at-eq2 : goal.returns-then-states-at-eq2
returns-then-states-at-eq2 c = search (kind_ignores, rules)

pub returns-then-binders-at : goal.returns-then-binders-at
returns-then-binders-at c = search (kind_binds, rules)

pub returns : goal.returns
returns c = search (kind_compares, rules)
