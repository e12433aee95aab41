use Rattle.scope.proofs.Cases.{unbound_outside, unbound_underscore, unbound_marked, unbound_free, unbound_shadowed}
use borrow.Author.Rules.{rules}
use Rattle.scope.proofs.Scope.is_var_unbound.Goals as goal

pub returns-then-not-is_name : goal.returns-then-not-is_name
returns-then-not-is_name c = search (unbound_outside, rules)

pub returns-then-name-self : goal.returns-then-name-self
returns-then-name-self c = search (unbound_underscore, rules)

pub returns-then-marked_unbound : goal.returns-then-marked_unbound
returns-then-marked_unbound c = search (unbound_marked, rules)

pub returns-in-AllowShadowing : goal.returns-in-AllowShadowing
returns-in-AllowShadowing c = search (unbound_shadowed, rules)

pub returns-in-RespectParent : goal.returns-in-RespectParent
returns-in-RespectParent c = search (unbound_free, rules)
