use Rattle.scope.proofs.Cases.{child_is}
use borrow.Author.Rules.{rules}
use Rattle.scope.proofs.Scope.child.Goals as goal

pub returns : goal.returns
returns c = search (child_is, rules)
