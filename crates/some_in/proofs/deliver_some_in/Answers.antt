use Rattle.some_in.proofs.Answers.{closed_match, closed_unknown, closed_array, closed_object}
use borrow.Author.Rules.{rules}
use Rattle.some_in.proofs.deliver_some_in.Goals as goal

pub returns-in-Match : goal.returns-in-Match
returns-in-Match c = search (closed_match, rules)

pub returns-in-Unknown : goal.returns-in-Unknown
returns-in-Unknown c = search (closed_unknown, rules)

pub returns-in-ArrayMismatch : goal.returns-in-ArrayMismatch
returns-in-ArrayMismatch c = search (closed_array, rules)

pub returns-in-ObjectMismatch : goal.returns-in-ObjectMismatch
returns-in-ObjectMismatch c = search (closed_object, rules)
