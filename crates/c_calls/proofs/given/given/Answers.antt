use Rattle.c_calls.proofs.Scopes.{given_unlisted, given_over, given_marks, given_made}
use borrow.Author.Rules.{rules}
use Rattle.c_calls.proofs.given.given.Goals as goal

pub returns-then-not-are_listed : goal.returns-then-not-are_listed
returns-then-not-are_listed c = search (given_unlisted, rules)

pub returns-then-not-within_limits : goal.returns-then-not-within_limits
returns-then-not-within_limits c = search (given_over, rules)

pub returns : goal.returns
returns c = search (given_made, rules)

pub returns-in_err-made : goal.returns-in_err-made
returns-in_err-made c = search (given_marks, rules)
