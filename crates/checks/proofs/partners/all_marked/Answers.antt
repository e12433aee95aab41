use Rattle.checks.proofs.ObjectFields.{marks_start, marks_on, marks_fail, marks_end}
use borrow.Author.Rules.{rules}
use Rattle.checks.proofs.partners.all_marked.Goals as goal

pub loop-q-init : goal.loop-q-init
loop-q-init c = search (marks_start, rules)

pub returns-then-marks-q-eq0 : goal.returns-then-marks-q-eq0
returns-then-marks-q-eq0 c = search (marks_fail, rules)

pub loop-q-preserved : goal.loop-q-preserved
loop-q-preserved c = search (marks_on, rules)

pub returns : goal.returns
returns c = search (marks_end, rules)
