use Rattle.operation.proofs.NumberTests.{operation_low, operation_high, scheduler_high, scoping_low, scoping_high}
use borrow.Author.Rules.{rules}
use Rattle.operation.proofs.numbers.are_listed.Goals as goal

pub returns-then-numbers-lt1 : goal.returns-then-numbers-lt1
returns-then-numbers-lt1 c = search (operation_low, rules)

pub returns-then-numbers-gt6 : goal.returns-then-numbers-gt6
returns-then-numbers-gt6 c = search (operation_high, rules)

pub returns-then-numbers-gt1 : goal.returns-then-numbers-gt1
returns-then-numbers-gt1 c = search (scheduler_high, rules)

pub returns-then-numbers-lt1-2 : goal.returns-then-numbers-lt1-2
returns-then-numbers-lt1-2 c = search (scoping_low, rules)

pub returns : goal.returns
returns c = search (scoping_high, rules)
