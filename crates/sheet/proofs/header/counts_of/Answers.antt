use Rattle.sheet.proofs.header.HeaderTests.{counts_in_lem}
use borrow.Author.Rules.{rules}
use Rattle.sheet.proofs.header.counts_of.Goals as goal

pub returns : goal.returns
returns c = search (counts_in_lem, rules)
