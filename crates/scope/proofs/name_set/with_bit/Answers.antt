use Rattle.scope.proofs.Cases.{bit_set}
use borrow.Author.Rules.{rules}
use Rattle.scope.proofs.name_set.with_bit.Goals as goal

pub returns : goal.returns
returns c = search (bit_set, rules)
