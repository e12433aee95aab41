use Rattle.table.proofs.trees.Words.{width_by}
use borrow.Author.Rules.{rules}
use Rattle.table.proofs.reading.width_of.Goals as goal

pub returns : goal.returns
returns c = (search (width_by, rules), search rules)
