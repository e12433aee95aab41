use Rattle.operation.proofs.NumberTests.{is_pattern, is_colon_equals, is_equals, is_some_in, is_index, is_parameter}
use borrow.Author.Rules.{rules}
use Rattle.operation.proofs.numbers.operation_of.Goals as goal

pub returns-then-number-eq1 : goal.returns-then-number-eq1
returns-then-number-eq1 c = search (is_pattern, rules)

pub returns-then-number-eq2 : goal.returns-then-number-eq2
returns-then-number-eq2 c = search (is_colon_equals, rules)

pub returns-then-number-eq3 : goal.returns-then-number-eq3
returns-then-number-eq3 c = search (is_equals, rules)

pub returns-then-number-eq4 : goal.returns-then-number-eq4
returns-then-number-eq4 c = search (is_some_in, rules)

pub returns-then-number-eq5 : goal.returns-then-number-eq5
returns-then-number-eq5 c = search (is_index, rules)

pub returns : goal.returns
returns c = search (is_parameter, rules)
