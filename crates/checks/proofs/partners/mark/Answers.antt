use Rattle.checks.proofs.ObjectFields.{mark_set, mark_none}
use borrow.Author.Rules.{rules}
use Rattle.checks.proofs.partners.mark.Goals as goal

pub returns-then-place-marks : goal.returns-then-place-marks
returns-then-place-marks c = search (mark_set, rules)

pub returns-else-place-marks : goal.returns-else-place-marks
returns-else-place-marks c = search (mark_none, rules)
