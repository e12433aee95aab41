use Rattle.scope.proofs.Cases.{mark_outside, mark_underscore, mark_done}
use borrow.Author.Rules.{rules}
use Rattle.scope.proofs.Scope.mark_as.Goals as goal

pub returns-then-not-is_name : goal.returns-then-not-is_name
returns-then-not-is_name c = search (mark_outside, rules)

pub returns-then-name-self : goal.returns-then-name-self
returns-then-name-self c = search (mark_underscore, rules)

pub returns : goal.returns
returns c = search (mark_done, rules)
