use Rattle.sheet.proofs.laws.ListingLines.{entries_some, entries_none}
use borrow.Author.Rules.{rules}
use Rattle.sheet.proofs.listing.entries_in.Goals as goal

pub returns-then-row-eq0 : goal.returns-then-row-eq0
returns-then-row-eq0 c = search (entries_some, rules)

pub returns : goal.returns
returns c = search (entries_none, rules)
