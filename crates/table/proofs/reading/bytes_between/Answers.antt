use Rattle.table.proofs.trees.Words.{text_none}
use borrow.Author.Rules.{rules}
use Rattle.table.proofs.reading.bytes_between.Goals as goal

pub returns-then-end-start : goal.returns-then-end-start
returns-then-end-start c = search (text_none, rules)
