use Rattle.scope.proofs.Cases.{unbound_declared, unbound_local, unbound_none}
use borrow.Author.Rules.{rules}
use Rattle.scope.proofs.Scope.marked_unbound.Goals as goal

pub returns-then-contains : goal.returns-then-contains
returns-then-contains c = search (unbound_declared, rules)

pub returns-then-self : goal.returns-then-self
returns-then-self c = search (unbound_local, rules)

pub returns : goal.returns
returns c = search (unbound_none, rules)
