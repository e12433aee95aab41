use Rattle.table.proofs.trees.Words.{name_part}
use borrow.Author.Rules.{rules}
use Rattle.table.proofs.reading.name_bytes.Goals as goal

pub returns : goal.returns
returns c = search (name_part, rules)
