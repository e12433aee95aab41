use Rattle.sheet.proofs.laws.ListingLines.{refusal_held, refusal_printed}
use borrow.Author.Rules.{rules}
use Rattle.sheet.proofs.listing.refuse.Goals as goal

pub write_lines-requires : goal.write_lines-requires
write_lines-requires c = search (refusal_held, rules)

pub returns : goal.returns
returns c = search (refusal_printed, rules)
