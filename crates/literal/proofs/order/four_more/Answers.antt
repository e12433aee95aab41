use Rattle.literal.proofs.Chunks.{four_said}
use borrow.Author.Rules.{rules}
use Rattle.literal.proofs.order.four_more.Goals as goal

pub returns : goal.returns
returns c = search (four_said, rules)
