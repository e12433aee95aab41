use Rattle.sheet.proofs.space.SpaceTests.{tables_asked, listing_refused, sheet_held}
use borrow.Author.Rules.{rules}
use Rattle.sheet.proofs.space.list_in.Goals as goal

pub read_tables-requires : goal.read_tables-requires
read_tables-requires c = search (tables_asked, rules)

pub returns-then-not-read_tables : goal.returns-then-not-read_tables
returns-then-not-read_tables c = search (listing_refused, rules)

pub list_tables-requires : goal.list_tables-requires
list_tables-requires c = sheet_held c.requires.0 c.read_tables.ensures (search rules) (search rules) (search rules) (search rules) (search rules) (search rules)
