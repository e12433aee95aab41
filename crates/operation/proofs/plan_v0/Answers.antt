use Rattle.operation.specs.Operation.{operation_outcome}
use Rattle.operation.proofs.Cases.{by_case}
use borrow.Author.Rules.{rules}
use Rattle.operation.proofs.plan_v0.Goals as goal

pub returns-in-Pattern : goal.returns-in-Pattern
unfolding operation_outcome
returns-in-Pattern c = search (by_case, rules)

pub returns-in-ColonEquals : goal.returns-in-ColonEquals
unfolding operation_outcome
returns-in-ColonEquals c = search (by_case, rules)

pub returns-in-Equals : goal.returns-in-Equals
unfolding operation_outcome
returns-in-Equals c = search (by_case, rules)

pub returns-in-SomeIn : goal.returns-in-SomeIn
unfolding operation_outcome
returns-in-SomeIn c = search (by_case, rules)

pub returns-in-Index : goal.returns-in-Index
unfolding operation_outcome
returns-in-Index c = search (by_case, rules)

pub returns-in-Parameter : goal.returns-in-Parameter
unfolding operation_outcome
returns-in-Parameter c = search (by_case, rules)
