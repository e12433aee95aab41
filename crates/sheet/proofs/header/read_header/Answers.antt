use Rattle.sheet.proofs.header.HeaderTests.{limited, countable}
use Rattle.sheet.proofs.header.Headings.{line_1_unread, by_counts, over_limit_lem, length_wrong, line_2_unread, operation_wrong, header_read}
use borrow.Author.Rules.{rules}
use Rattle.sheet.proofs.header.read_header.Goals as goal

pub returns-then-not-read_lines : goal.returns-then-not-read_lines
returns-then-not-read_lines c = search (line_1_unread, rules)

pub returns-then-not-within_limits : goal.returns-then-not-within_limits
returns-then-not-within_limits c = search (over_limit_lem, by_counts, rules)

pub places_of-places-requires : goal.places_of-places-requires
places_of-places-requires c = search (countable, limited, rules)

pub returns-then-sheet-places : goal.returns-then-sheet-places
returns-then-sheet-places c = search (length_wrong, by_counts, rules)

pub returns-then-not-read_lines-2 : goal.returns-then-not-read_lines-2
returns-then-not-read_lines-2 c = search (line_2_unread, by_counts, rules)

pub returns-then-not-are_listed : goal.returns-then-not-are_listed
returns-then-not-are_listed c = search (operation_wrong, by_counts, rules)

pub returns : goal.returns
returns c = search (header_read, by_counts, rules)
