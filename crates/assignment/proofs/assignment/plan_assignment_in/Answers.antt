use Rattle.assignment.proofs.laws.Sides.{assigns_colon, assigns_equals}
use borrow.Author.Rules.{rules}
use Rattle.assignment.proofs.assignment.plan_assignment_in.Goals as goal

pub returns-in-ColEq : goal.returns-in-ColEq
returns-in-ColEq c = (search (assigns_colon, rules), tt)

pub returns-in-Eq : goal.returns-in-Eq
returns-in-Eq c = (search (assigns_equals, rules), tt)
