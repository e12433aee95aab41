use Rattle.sheet.proofs.space.SpaceTests.{all_asked, tables_refused, all_held}
use borrow.Author.Rules.{rules}
use Rattle.sheet.proofs.space.plan_headed.Goals as goal

pub read_tables-requires : goal.read_tables-requires
read_tables-requires c = search (all_asked, rules)

pub returns-then-not-read_tables : goal.returns-then-not-read_tables
returns-then-not-read_tables c = search (tables_refused, rules)

pub plan_tables-requires : goal.plan_tables-requires
plan_tables-requires c = all_held c.requires c.read_tables.ensures (search rules) (search rules) (search rules) (search rules) (search rules) (search rules)
