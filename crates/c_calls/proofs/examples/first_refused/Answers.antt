use Rattle.c_calls.proofs.Exampled.{first_unlisted, first_refused, first_passed}
use borrow.Author.Rules.{rules}
use Rattle.c_calls.proofs.examples.first_refused.Goals as goal

pub returns-then-not-are_listed : goal.returns-then-not-are_listed
returns-then-not-are_listed c = search (first_unlisted, rules)

pub returns-in_err-given : goal.returns-in_err-given
returns-in_err-given c = search (first_refused, rules)

pub returns : goal.returns
returns c = search (first_passed, rules)
