use Rattle.operation.proofs.NumberTests.{reading_present, reading_careful}
use borrow.Author.Rules.{rules}
use Rattle.operation.proofs.numbers.reading_of.Goals as goal

pub returns-then-scoping-lt3 : goal.returns-then-scoping-lt3
returns-then-scoping-lt3 c = search (reading_present, rules)

pub returns : goal.returns
returns c = search (reading_careful, rules)
