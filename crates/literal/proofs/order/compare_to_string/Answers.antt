use Rattle.literal.proofs.Strings.{told_right}
use borrow.Author.Rules.{rules}
use Rattle.literal.proofs.order.compare_to_string.Goals as goal

pub returns : goal.returns
returns c = search (told_right, rules)
