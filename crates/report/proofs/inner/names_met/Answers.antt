use Rattle.report.proofs.Meeting.{met_by}
use borrow.Author.Rules.{rules}
use Rattle.report.proofs.inner.names_met.Goals as goal

pub returns : goal.returns
returns c = search (met_by, rules)
