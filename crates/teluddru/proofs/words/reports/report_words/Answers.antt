use Rattle.teluddru.proofs.words.reports.report_words.Goals as goal

pub returns : goal.returns
returns c = rw c.among-tables.ensures at c.names_report.ensures
