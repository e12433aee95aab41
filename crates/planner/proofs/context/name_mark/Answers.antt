use Rattle.planner.proofs.laws.States.{mark_unbound, mark_planned, mark_free, mark_defined}
use borrow.Author.Rules.{rules}
use Rattle.planner.proofs.context.name_mark.Goals as goal

pub returns-then-not-defined : goal.returns-then-not-defined
returns-then-not-defined c = search (mark_unbound, rules)

pub returns-then-binder-ne0 : goal.returns-then-binder-ne0
returns-then-binder-ne0 c = search (mark_planned, rules)

pub returns-then-unbound-eq1 : goal.returns-then-unbound-eq1
returns-then-unbound-eq1 c = search (mark_free, rules)

pub returns : goal.returns
returns c = search (mark_defined, rules)
