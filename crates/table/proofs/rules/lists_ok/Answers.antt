use Rattle.table.proofs.tests.Answers.{lists_ragged, lists_names, lists_numbers, lists_entries}
use borrow.Author.Rules.{rules}
use Rattle.table.proofs.rules.lists_ok.Goals as goal

pub returns-then-not-whole_records : goal.returns-then-not-whole_records
returns-then-not-whole_records c = search (lists_ragged, rules)

pub returns-then-not-names_ok : goal.returns-then-not-names_ok
returns-then-not-names_ok c = search (lists_names, rules)

pub returns-then-not-numbers_ok : goal.returns-then-not-numbers_ok
returns-then-not-numbers_ok c = search (lists_numbers, rules)

pub returns : goal.returns
returns c = search (lists_entries, rules)
