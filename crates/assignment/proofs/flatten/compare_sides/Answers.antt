use Rattle.assignment.proofs.flatten.PairSides.{sides_compared}
use borrow.Author.Rules.{rules}
use Rattle.assignment.proofs.flatten.compare_sides.Goals as goal

pub returns : goal.returns
returns c = search (sides_compared, rules)
