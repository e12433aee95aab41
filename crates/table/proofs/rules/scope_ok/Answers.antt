use Rattle.table.proofs.tests.Clauses.{scope_none, scope_high, scope_name}
use borrow.Author.Rules.{rules}
use Rattle.table.proofs.rules.scope_ok.Goals as goal

pub returns-then-underscore-eq0 : goal.returns-then-underscore-eq0
returns-then-underscore-eq0 c = search (scope_none, rules)

pub returns-then-names-underscore : goal.returns-then-names-underscore
returns-then-names-underscore c = search (scope_high, rules)

pub returns : goal.returns
returns c = search (scope_name, rules)
