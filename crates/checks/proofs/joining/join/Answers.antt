use Rattle.checks.proofs.Joins.{after_match, after_unknown, after_array, after_object}
use borrow.Author.Rules.{rules}
use Rattle.checks.proofs.joining.join.Goals as goal

pub returns-in-Match : goal.returns-in-Match
returns-in-Match c = search (after_match, rules)

pub returns-in-Unknown : goal.returns-in-Unknown
returns-in-Unknown c = search (after_unknown, rules)

pub returns-in-ArrayMismatch : goal.returns-in-ArrayMismatch
returns-in-ArrayMismatch c = search (after_array, rules)

pub returns-in-ObjectMismatch : goal.returns-in-ObjectMismatch
returns-in-ObjectMismatch c = search (after_object, rules)
