use Rattle.sheet.proofs.laws.ListingLines.{entry_kept, entry_written}
use borrow.Author.Rules.{rules}
use Rattle.sheet.proofs.listing.write_entry.Goals as goal

pub shape_of-out : goal.shape_of-out
shape_of-out c = search (entry_kept, rules)

pub returns : goal.returns
returns c = search (entry_written, rules)
