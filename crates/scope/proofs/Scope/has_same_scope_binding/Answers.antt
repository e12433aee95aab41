use Rattle.scope.proofs.Cases.{same_outside, same_underscore, same_is}
use borrow.Author.Rules.{rules}
use Rattle.scope.proofs.Scope.has_same_scope_binding.Goals as goal

pub returns-then-not-is_name : goal.returns-then-not-is_name
returns-then-not-is_name c = search (same_outside, rules)

pub returns-then-name-self : goal.returns-then-name-self
returns-then-name-self c = search (same_underscore, rules)

pub returns : goal.returns
returns c = search (same_is, rules)
