use Rattle.sheet.proofs.laws.ListingLines.{four_written}
use borrow.Author.Rules.{rules}
use Rattle.sheet.proofs.listing.write_four.Goals as goal

pub returns : goal.returns
returns c = search (four_written, rules)
