use Rattle.scope.proofs.Cases.{bit_cleared}
use borrow.Author.Rules.{rules}
use Rattle.scope.proofs.name_set.without_bit.Goals as goal

pub returns : goal.returns
returns c = search (bit_cleared, rules)
