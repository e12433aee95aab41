use Rattle.table.proofs.trees.Words.{word_here}
use borrow.Author.Rules.{rules}
use Rattle.table.proofs.reading.node_word.Goals as goal

pub returns : goal.returns
returns c = search (word_here, rules)
