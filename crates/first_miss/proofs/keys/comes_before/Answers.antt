use Rattle.first_miss.proofs.nodes.KeyLaws.{before_less, before_not}
use borrow.Author.Rules.{rules}
use Rattle.first_miss.proofs.keys.comes_before.Goals as goal

pub returns-in-Less : goal.returns-in-Less
returns-in-Less c = search (before_less, rules)

pub returns-in_default : goal.returns-in_default
returns-in_default c = search (before_not, rules)
