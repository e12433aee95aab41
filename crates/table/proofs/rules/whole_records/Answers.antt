use Rattle.table.proofs.tests.Clauses.{ragged_nodes, ragged_numbers, whole_names}
use borrow.Author.Rules.{rules}
use Rattle.table.proofs.rules.whole_records.Goals as goal

pub returns-then-nodes-ne0 : goal.returns-then-nodes-ne0
returns-then-nodes-ne0 c = search (ragged_nodes, rules)

pub returns-then-numbers-ne0 : goal.returns-then-numbers-ne0
returns-then-numbers-ne0 c = search (ragged_numbers, rules)

pub returns : goal.returns
returns c = search (whole_names, rules)
