use Rattle.report.proofs.Reporting.{report_marked}
use borrow.Author.Rules.{rules}
use Rattle.report.proofs.report_names.Goals as goal

pub returns : goal.returns
returns c = search (report_marked, rules)
