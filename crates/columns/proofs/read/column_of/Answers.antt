use Rattle.columns.proofs.read.Six.{not_six, column_two, column_six}
use borrow.Author.Rules.{rules}
use Rattle.columns.proofs.read.column_of.Goals as goal

pub returns-then-bytes-ne6 : goal.returns-then-bytes-ne6
returns-then-bytes-ne6 c = search (not_six, rules)

pub returns-then-are_blank : goal.returns-then-are_blank
returns-then-are_blank c = search (column_two, rules)

pub returns : goal.returns
returns c = search (column_six, rules)
