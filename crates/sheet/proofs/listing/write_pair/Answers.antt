use Rattle.sheet.proofs.laws.ListingLines.{pair_written}
use borrow.Author.Rules.{rules}
use Rattle.sheet.proofs.listing.write_pair.Goals as goal

pub returns : goal.returns
returns c = search (pair_written, rules)
