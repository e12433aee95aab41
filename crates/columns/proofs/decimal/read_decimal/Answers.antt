use Rattle.columns.proofs.read.Reading.{decimal_empty, decimal_zero, decimal_one, decimal_more}
use borrow.Author.Rules.{rules}
use Rattle.columns.proofs.decimal.read_decimal.Goals as goal

pub returns-then-bytes-eq0 : goal.returns-then-bytes-eq0
returns-then-bytes-eq0 c = search (decimal_empty, rules)

pub returns-then-bytes-eq1 : goal.returns-then-bytes-eq1
returns-then-bytes-eq1 c = search (decimal_one, rules)

pub returns-then-bytes-eq48 : goal.returns-then-bytes-eq48
returns-then-bytes-eq48 c = search (decimal_zero, rules)

pub returns : goal.returns
returns c = search (decimal_more, rules)
