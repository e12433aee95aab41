use Rattle.operation.proofs.OperationParts.{root_pattern, roots_colon_equals, roots_equals, roots_some_in, root_index, root_parameter}
use borrow.Author.Rules.{rules}
use Rattle.operation.proofs.patterns.roots_are_nodes.Goals as goal

pub returns-in-Pattern : goal.returns-in-Pattern
returns-in-Pattern c = search (root_pattern, rules)

pub returns-in-ColonEquals : goal.returns-in-ColonEquals
returns-in-ColonEquals c = search (roots_colon_equals, rules)

pub returns-in-Equals : goal.returns-in-Equals
returns-in-Equals c = search (roots_equals, rules)

pub returns-in-SomeIn : goal.returns-in-SomeIn
returns-in-SomeIn c = search (roots_some_in, rules)

pub returns-in-Index : goal.returns-in-Index
returns-in-Index c = search (root_index, rules)

pub returns-in-Parameter : goal.returns-in-Parameter
returns-in-Parameter c = search (root_parameter, rules)
