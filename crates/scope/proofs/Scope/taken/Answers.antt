use Rattle.scope.proofs.Cases.{taken_bound, taken_global}
use borrow.Author.Rules.{rules}
use Rattle.scope.proofs.Scope.taken.Goals as goal

pub returns-then-contains : goal.returns-then-contains
returns-then-contains c = search (taken_bound, rules)

pub returns : goal.returns
returns c = search (taken_global, rules)
