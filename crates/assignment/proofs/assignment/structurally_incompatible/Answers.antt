use Rattle.assignment.proofs.laws.Shapes.{array_against, object_against, single_against}
use borrow.Author.Rules.{rules}
use Rattle.assignment.proofs.assignment.structurally_incompatible.Goals as goal

pub returns-then-left-eq-ARRAY : goal.returns-then-left-eq-ARRAY
returns-then-left-eq-ARRAY c = search (array_against, rules)

pub returns-then-left-eq-OBJECT : goal.returns-then-left-eq-OBJECT
returns-then-left-eq-OBJECT c = search (object_against, rules)

pub returns : goal.returns
returns c = search (single_against, rules)
