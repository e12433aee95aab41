use Rattle.c_calls.proofs.Exampled.{given_done, given_marked}
use borrow.Author.Rules.{rules}
use Rattle.c_calls.proofs.examples.example_given.Goals as goal

pub returns-in-Ok : goal.returns-in-Ok
returns-in-Ok c = search (given_done, rules)

pub returns : goal.returns
returns c = search (given_marked, rules)
