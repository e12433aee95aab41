use Rattle.sheet.proofs.laws.ListingLines.{entry_row}
use borrow.Author.Rules.{rules}
use Rattle.sheet.proofs.listing.entry_row.Goals as goal

pub returns : goal.returns
returns c = search (entry_row, rules)
