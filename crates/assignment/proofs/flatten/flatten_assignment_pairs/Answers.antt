use Rattle.assignment.proofs.flatten.FlatNodes.{ask_flatten, pairs_planned, pairs_refused}
use borrow.Author.Rules.{rules}
use Rattle.assignment.proofs.flatten.flatten_assignment_pairs.Goals as goal

pub flatten-requires : goal.flatten-requires
flatten-requires c = (search (ask_flatten, rules), search rules)

pub returns-in-Ok : goal.returns-in-Ok
returns-in-Ok c = (search (pairs_planned, rules), (tt, tt))

pub returns-in-Err : goal.returns-in-Err
returns-in-Err c = (search (pairs_refused, rules), (tt, tt))
