use Rattle.sheet.proofs.header.HeaderTests.{limit_nodes, limit_children, limit_numbers, limit_names, limit_strings, limit_text}
use borrow.Author.Rules.{rules}
use Rattle.sheet.proofs.header.within_limits.Goals as goal

pub returns-then-counts-gt-MOST_NODES : goal.returns-then-counts-gt-MOST_NODES
returns-then-counts-gt-MOST_NODES c = search (limit_nodes, rules)

pub returns-then-counts-gt-MOST_CHILDREN : goal.returns-then-counts-gt-MOST_CHILDREN
returns-then-counts-gt-MOST_CHILDREN c = search (limit_children, rules)

pub returns-then-counts-gt-MOST_NUMBERS : goal.returns-then-counts-gt-MOST_NUMBERS
returns-then-counts-gt-MOST_NUMBERS c = search (limit_numbers, rules)

pub returns-then-counts-gt-MOST_NAMES : goal.returns-then-counts-gt-MOST_NAMES
returns-then-counts-gt-MOST_NAMES c = search (limit_names, rules)

pub returns-then-counts-gt-MOST_STRINGS : goal.returns-then-counts-gt-MOST_STRINGS
returns-then-counts-gt-MOST_STRINGS c = search (limit_strings, rules)

pub returns : goal.returns
returns c = search (limit_text, rules)
