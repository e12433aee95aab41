use Rattle.assignment.proofs.flatten.PairSides.{side_bound}
use Rattle.assignment.proofs.preview.Previews.{previewed_written}
use borrow.Author.Rules.{rules}
use Rattle.assignment.proofs.flatten.bind_unplanned.Goals as goal

pub returns : goal.returns
returns c = (search (side_bound, rules), search (previewed_written, rules))
