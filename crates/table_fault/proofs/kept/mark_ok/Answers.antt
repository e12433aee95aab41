use Rattle.table_fault.proofs.Tests.{mark_none}
use borrow.Author.Rules.{rules}
use Rattle.table_fault.proofs.kept.mark_ok.Goals as goal

pub returns-then-marks-i : goal.returns-then-marks-i
returns-then-marks-i c = search (mark_none, rules)
