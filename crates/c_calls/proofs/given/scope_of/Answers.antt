use Rattle.c_calls.proofs.Scopes.{scope_is}
use borrow.Author.Rules.{rules}
use Rattle.c_calls.proofs.given.scope_of.Goals as goal

pub returns : goal.returns
returns c = search (scope_is, rules)
