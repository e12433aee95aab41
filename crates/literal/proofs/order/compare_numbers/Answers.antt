use Rattle.literal.proofs.Orders.{told_below, told_above}
use borrow.Author.Rules.{rules}
use Rattle.literal.proofs.order.compare_numbers.Goals as goal

pub returns-then-b_below : goal.returns-then-b_below
returns-then-b_below c = search (told_below, rules)

pub returns : goal.returns
returns c = search (told_above, rules)
