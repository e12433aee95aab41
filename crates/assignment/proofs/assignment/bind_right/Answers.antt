use Rattle.assignment.proofs.laws.Sides.{bound_right}
use borrow.Author.Rules.{rules}
use Rattle.assignment.proofs.assignment.bind_right.Goals as goal

pub returns : goal.returns
returns c = search (bound_right, rules)
