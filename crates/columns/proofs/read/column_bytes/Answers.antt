use Rattle.columns.proofs.read.Reading.{column_short, column_past, column_there}
use borrow.Author.Rules.{rules}
use Rattle.columns.proofs.read.column_bytes.Goals as goal

pub returns-then-bytes-width : goal.returns-then-bytes-width
returns-then-bytes-width c = search (column_short, rules)

pub returns-then-bytes-width-2 : goal.returns-then-bytes-width-2
returns-then-bytes-width-2 c = search (column_past, rules)

pub returns : goal.returns
returns c = search (column_there, rules)
