use Rattle.assignment.proofs.laws.Sides.{equals_wild, equals_sides_lem}
use borrow.Author.Rules.{rules}
use Rattle.assignment.proofs.assignment.plan_equals.Goals as goal

pub returns-then-side-ne0 : goal.returns-then-side-ne0
returns-then-side-ne0 c = (search (equals_wild, rules), tt)

pub returns : goal.returns
returns c = (search (equals_sides_lem, rules), tt)
