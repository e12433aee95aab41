use Rattle.scope.proofs.Cases.{sum_is}
use borrow.Author.Rules.{rules}
use Rattle.scope.proofs.Scope.mark.Goals as goal

pub returns : goal.returns
returns c = search (sum_is, rules)
