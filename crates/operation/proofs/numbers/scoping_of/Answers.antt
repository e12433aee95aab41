use Rattle.operation.proofs.NumberTests.{scoping_shadows, scoping_shadows_too, scoping_respects}
use borrow.Author.Rules.{rules}
use Rattle.operation.proofs.numbers.scoping_of.Goals as goal

pub returns-then-scoping-eq2 : goal.returns-then-scoping-eq2
returns-then-scoping-eq2 c = search (scoping_shadows, rules)

pub returns-then-scoping-eq4 : goal.returns-then-scoping-eq4
returns-then-scoping-eq4 c = search (scoping_shadows_too, rules)

pub returns : goal.returns
returns c = search (scoping_respects, rules)
