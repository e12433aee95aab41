use Rattle.literal.proofs.Keys.{compare_left_none, compare_right_none, compare_less, compare_more, compare_numbers, compare_plain}
use Rattle.literal.proofs.Strings.{compare_strings}
use borrow.Author.Rules.{rules}
use Rattle.literal.proofs.order.compare.Goals as goal

pub returns-then-x-eq5 : goal.returns-then-x-eq5
returns-then-x-eq5 c = search (compare_left_none, rules)

pub returns-then-y-eq5 : goal.returns-then-y-eq5
returns-then-y-eq5 c = search (compare_right_none, rules)

pub returns-then-x-y : goal.returns-then-x-y
returns-then-x-y c = search (compare_less, rules)

pub returns-then-y-x : goal.returns-then-y-x
returns-then-y-x c = search (compare_more, rules)

pub returns-then-x-eq3 : goal.returns-then-x-eq3
returns-then-x-eq3 c = search (compare_numbers, rules)

pub returns-then-x-eq4 : goal.returns-then-x-eq4
returns-then-x-eq4 c = search (compare_strings, rules)

pub returns : goal.returns
returns c = search (compare_plain, rules)
