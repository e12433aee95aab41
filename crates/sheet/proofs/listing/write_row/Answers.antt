use Rattle.sheet.proofs.laws.ListingLines.{line_kept, line_written}
use borrow.Author.Rules.{rules}
use Rattle.sheet.proofs.listing.write_row.Goals as goal

pub shape_of-out : goal.shape_of-out
shape_of-out c = search (line_kept, rules)

pub returns : goal.returns
returns c = search (line_written, rules)
