use Rattle.table.proofs.tests.Clauses.{over_nodes, over_children, over_numbers, over_names, over_strings, limits_text}
use borrow.Author.Rules.{rules}
use Rattle.table.proofs.limits.within_limits.Goals as goal

pub returns-then-tables-gt512 : goal.returns-then-tables-gt512
returns-then-tables-gt512 c = search (over_nodes, rules)

pub returns-then-tables-gt512-2 : goal.returns-then-tables-gt512-2
returns-then-tables-gt512-2 c = search (over_children, rules)

pub returns-then-tables-gt256 : goal.returns-then-tables-gt256
returns-then-tables-gt256 c = search (over_numbers, rules)

pub returns-then-tables-gt128 : goal.returns-then-tables-gt128
returns-then-tables-gt128 c = search (over_names, rules)

pub returns-then-tables-gt8192 : goal.returns-then-tables-gt8192
returns-then-tables-gt8192 c = search (over_strings, rules)

pub returns : goal.returns
returns c = search (limits_text, rules)
