use Rattle.body.proofs.SideCases.{sides_by_lem}
use borrow.Author.Rules.{rules}
use Rattle.body.proofs.sides.sides_of.Goals as goal

pub returns-in-Pattern : goal.returns-in-Pattern
returns-in-Pattern c = search (sides_by_lem, rules)

pub returns-in-ColonEquals : goal.returns-in-ColonEquals
returns-in-ColonEquals c = search (sides_by_lem, rules)

pub returns-in-Equals : goal.returns-in-Equals
returns-in-Equals c = search (sides_by_lem, rules)

pub returns-in-SomeIn : goal.returns-in-SomeIn
returns-in-SomeIn c = search (sides_by_lem, rules)

pub returns-in-Index : goal.returns-in-Index
returns-in-Index c = search (sides_by_lem, rules)

pub returns-in-Parameter : goal.returns-in-Parameter
returns-in-Parameter c = search (sides_by_lem, rules)
