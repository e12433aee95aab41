use Rattle.assignment.proofs.laws.Sides.{colon_unbound, colon_defined, colon_binds}
use borrow.Author.Rules.{rules}
use Rattle.assignment.proofs.assignment.colon_equals_from.Goals as goal

pub returns-then-not-introduces_binding : goal.returns-then-not-introduces_binding
returns-then-not-introduces_binding c = search (colon_unbound, rules)

pub returns-then-name-ne0 : goal.returns-then-name-ne0
returns-then-name-ne0 c = search (colon_defined, rules)

pub returns : goal.returns
returns c = search (colon_binds, rules)
