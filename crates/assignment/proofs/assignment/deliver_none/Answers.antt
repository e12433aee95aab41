use Rattle.assignment.proofs.laws.Sides.{none_delivered}
use borrow.Author.Rules.{rules}
use Rattle.assignment.proofs.assignment.deliver_none.Goals as goal

pub returns : goal.returns
returns c = search (none_delivered, rules)
