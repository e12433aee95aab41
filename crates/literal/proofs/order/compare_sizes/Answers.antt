use Rattle.literal.proofs.Orders.{told_less, told_same, told_more}
use borrow.Author.Rules.{rules}
use Rattle.literal.proofs.order.compare_sizes.Goals as goal

pub returns-then-a-b : goal.returns-then-a-b
returns-then-a-b c = search (told_less, rules)

pub returns-then-a-b-2 : goal.returns-then-a-b-2
returns-then-a-b-2 c = search (told_same, rules)

pub returns : goal.returns
returns c = search (told_more, rules)
