use Rattle.literal.proofs.Strings.{told_left}
use borrow.Author.Rules.{rules}
use Rattle.literal.proofs.order.compare_strings.Goals as goal

pub returns : goal.returns
returns c = search (told_left, rules)
