use Rattle.table.proofs.trees.Words.{part_none, part_rest, part_whole}
use borrow.Author.Rules.{rules}
use Rattle.table.proofs.reading.bytes_at.Goals as goal

pub returns-then-bytes-start : goal.returns-then-bytes-start
returns-then-bytes-start c = search (part_none, rules)

pub returns-then-bytes-start-2 : goal.returns-then-bytes-start-2
returns-then-bytes-start-2 c = search (part_rest, rules)

pub returns : goal.returns
returns c = search (part_whole, rules)
