use Rattle.assignment.proofs.flatten.PairSides.{side_wrote}
use borrow.Author.Rules.{rules}
use Rattle.assignment.proofs.flatten.bind_planned.Goals as goal

pub returns : goal.returns
returns c = search (side_wrote, rules)
