use Rattle.sheet.proofs.source.SourceTests.{counts_told}
use borrow.Author.Rules.{rules}
use Rattle.sheet.proofs.source.counts_at.Goals as goal

pub returns : goal.returns
returns c = search (counts_told, rules)
