use Rattle.c_calls.proofs.BodyCalls.{marks_left, marks_kept}
use borrow.Author.Rules.{rules}
use Rattle.c_calls.proofs.bodies.keep_marks.Goals as goal

pub returns-then-number-ne0 : goal.returns-then-number-ne0
returns-then-number-ne0 c = search (marks_left, rules)

pub returns : goal.returns
returns c = search (marks_kept, rules)
