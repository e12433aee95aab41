use Rattle.sheet.proofs.tables.TableTests.{nodes_asked, children_asked, numbers_asked, names_asked, no_nodes, no_children, no_numbers, tables_read}
use borrow.Author.Rules.{rules}
use Rattle.sheet.proofs.tables.read_tables.Goals as goal

pub read_lines-requires : goal.read_lines-requires
read_lines-requires c = search (nodes_asked, rules)

pub returns-then-not-read_lines : goal.returns-then-not-read_lines
returns-then-not-read_lines c = search (no_nodes, rules)

pub read_lines-requires-2 : goal.read_lines-requires-2
read_lines-requires-2 c = search (children_asked, rules)

pub returns-then-not-read_lines-2 : goal.returns-then-not-read_lines-2
returns-then-not-read_lines-2 c = search (no_children, rules)

pub read_numbers-requires : goal.read_numbers-requires
read_numbers-requires c = search (numbers_asked, rules)

pub returns-then-not-read_numbers : goal.returns-then-not-read_numbers
returns-then-not-read_numbers c = search (no_numbers, rules)

pub read_names-requires : goal.read_names-requires
read_names-requires c = (search (names_asked, rules), search rules)

pub returns : goal.returns
returns c = search (tables_read, rules)
