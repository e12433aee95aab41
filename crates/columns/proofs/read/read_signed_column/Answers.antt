use Rattle.columns.proofs.read.Reading.{twenty_empty, twenty_minus, twenty_plain}
use borrow.Author.Rules.{rules}
use Rattle.columns.proofs.read.read_signed_column.Goals as goal

pub returns-then-number-eq0 : goal.returns-then-number-eq0
returns-then-number-eq0 c = search (twenty_empty, rules)

pub returns-then-number-eq45 : goal.returns-then-number-eq45
returns-then-number-eq45 c = search (twenty_minus, rules)

pub returns : goal.returns
returns c = search (twenty_plain, rules)
