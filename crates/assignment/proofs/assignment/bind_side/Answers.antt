use Rattle.assignment.proofs.laws.Binding.{side_opposed, side_match, side_unknown, side_array, side_object}
use borrow.Author.Rules.{rules}
use Rattle.assignment.proofs.assignment.bind_side.Goals as goal

pub returns-then-structurally_incompatible : goal.returns-then-structurally_incompatible
returns-then-structurally_incompatible c = search (side_opposed, rules)

pub returns-in-Match : goal.returns-in-Match
returns-in-Match c = search (side_match, rules)

pub returns-in-Unknown : goal.returns-in-Unknown
returns-in-Unknown c = search (side_unknown, rules)

pub returns-in-ArrayMismatch : goal.returns-in-ArrayMismatch
returns-in-ArrayMismatch c = search (side_array, rules)

pub returns-in-ObjectMismatch : goal.returns-in-ObjectMismatch
returns-in-ObjectMismatch c = search (side_object, rules)
