use Rattle.c_calls.proofs.BodyCalls.{marks_start, putting_on, marks_full, marks_done}
use borrow.Author.Rules.{rules}
use Rattle.c_calls.proofs.bodies.put_marks.Goals as goal

pub loop-i-init : goal.loop-i-init
loop-i-init c = search (marks_start, rules)

pub returns-then-marks-i : goal.returns-then-marks-i
returns-then-marks-i c = search (marks_full, rules)

pub loop-i-preserved : goal.loop-i-preserved
loop-i-preserved c = search (putting_on, rules)

pub returns : goal.returns
returns c = search (marks_done, rules)
