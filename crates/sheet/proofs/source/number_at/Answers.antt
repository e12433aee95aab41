use Rattle.sheet.proofs.source.SourceTests.{number_told}
use borrow.Author.Rules.{rules}
use Rattle.sheet.proofs.source.number_at.Goals as goal

pub returns : goal.returns
returns c = search (number_told, rules)
