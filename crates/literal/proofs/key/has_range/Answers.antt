use Rattle.literal.proofs.Keys.{range_in, range_out}
use borrow.Author.Rules.{rules}
use Rattle.literal.proofs.key.has_range.Goals as goal

pub returns-then-start-length : goal.returns-then-start-length
returns-then-start-length c = search (range_in, rules)

pub returns : goal.returns
returns c = search (range_out, rules)
