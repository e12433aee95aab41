use Rattle.operation.proofs.OperationParts.{of_pattern, of_colon_equals, of_equals, of_some_in, of_index, of_parameter}
use borrow.Author.Rules.{rules}
use Rattle.operation.proofs.patterns.patterns_of.Goals as goal

pub returns-in-Pattern : goal.returns-in-Pattern
returns-in-Pattern c = search (of_pattern, rules)

pub returns-in-ColonEquals : goal.returns-in-ColonEquals
returns-in-ColonEquals c = search (of_colon_equals, rules)

pub returns-in-Equals : goal.returns-in-Equals
returns-in-Equals c = search (of_equals, rules)

pub returns-in-SomeIn : goal.returns-in-SomeIn
returns-in-SomeIn c = search (of_some_in, rules)

pub returns-in-Index : goal.returns-in-Index
returns-in-Index c = search (of_index, rules)

pub returns-in-Parameter : goal.returns-in-Parameter
returns-in-Parameter c = search (of_parameter, rules)
