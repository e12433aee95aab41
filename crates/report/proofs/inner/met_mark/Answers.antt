use Rattle.report.proofs.Reporting.{met_past, met_none, met_some}
use borrow.Author.Rules.{rules}
use Rattle.report.proofs.inner.met_mark.Goals as goal

pub returns-then-i-ge128 : goal.returns-then-i-ge128
returns-then-i-ge128 c = search (met_past, rules)

pub returns-then-met-i-eq0 : goal.returns-then-met-i-eq0
returns-then-met-i-eq0 c = search (met_none, rules)

pub returns : goal.returns
returns c = search (met_some, rules)
