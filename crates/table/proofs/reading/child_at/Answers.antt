use Rattle.table.proofs.trees.Words.{child_past}
use borrow.Author.Rules.{rules}
use Rattle.table.proofs.reading.child_at.Goals as goal

pub returns : goal.returns
returns c = search (child_past, rules)
