use Rattle.scope.proofs.Cases.{new_is}
use borrow.Author.Rules.{rules}
use Rattle.scope.proofs.Scope.new.Goals as goal

pub returns : goal.returns
returns c = search (new_is, rules)
