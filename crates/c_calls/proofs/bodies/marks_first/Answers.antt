use Rattle.c_calls.proofs.BodyCalls.{limits_over, limits_marks, limits_made}
use borrow.Author.Rules.{rules}
use Rattle.c_calls.proofs.bodies.marks_first.Goals as goal

pub returns-then-not-within_limits : goal.returns-then-not-within_limits
returns-then-not-within_limits c = search (limits_over, rules)

pub returns-in_err-made : goal.returns-in_err-made
returns-in_err-made c = search (limits_marks, rules)

pub returns : goal.returns
returns c = search (limits_made, rules)
