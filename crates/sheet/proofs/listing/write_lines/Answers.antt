use Rattle.sheet.proofs.laws.ListingLines.{line_past, entries_past, lines_printed}
use borrow.Author.Rules.{rules}
use Rattle.sheet.proofs.listing.write_lines.Goals as goal

pub returns-then-out-lt-LINE : goal.returns-then-out-lt-LINE
returns-then-out-lt-LINE c = search (line_past, rules)

pub returns-then-out-count : goal.returns-then-out-count
returns-then-out-count c = search (entries_past, rules)

pub returns : goal.returns
returns c = search (lines_printed, rules)
