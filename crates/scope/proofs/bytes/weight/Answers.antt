use Rattle.scope.proofs.Cases.{weight_in, weight_out}
use borrow.Author.Rules.{rules}
use Rattle.scope.proofs.bytes.weight.Goals as goal

pub returns-then-contains : goal.returns-then-contains
returns-then-contains c = (search (weight_in, rules), search rules)

pub returns : goal.returns
returns c = (search (weight_out, rules), search rules)
