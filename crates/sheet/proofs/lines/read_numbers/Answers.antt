use Rattle.sheet.proofs.lines.LineTests.{numbers_start, number_asked, numbers_on, numbers_fail, numbers_end}
use borrow.Author.Rules.{rules}
use Rattle.sheet.proofs.lines.read_numbers.Goals as goal

pub loop-i-init : goal.loop-i-init
loop-i-init c = search (numbers_start, rules)

pub read_number-requires : goal.read_number-requires
read_number-requires c = search (number_asked, rules)

pub returns-then-not-read_number : goal.returns-then-not-read_number
returns-then-not-read_number c = search (numbers_fail, rules)

pub loop-i-preserved : goal.loop-i-preserved
loop-i-preserved c = search (numbers_on, rules)

pub returns : goal.returns
returns c = search (numbers_end, rules)
