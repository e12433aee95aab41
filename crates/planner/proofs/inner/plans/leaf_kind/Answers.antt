use Rattle.planner.proofs.destructuring.SecondPass.{leaf_low, leaf_high}
use borrow.Author.Rules.{rules}
use Rattle.planner.proofs.inner.plans.leaf_kind.Goals as goal

pub returns-then-kind-le-LAST_LITERAL : goal.returns-then-kind-le-LAST_LITERAL
returns-then-kind-le-LAST_LITERAL c = search (leaf_low, rules)

pub returns : goal.returns
returns c = search (leaf_high, rules)
