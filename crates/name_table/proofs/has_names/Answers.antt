use Rattle.name_table.proofs.Cases.{odd_names, pairs_of_names}
use borrow.Author.Rules.{rules}
use Rattle.name_table.proofs.has_names.Goals as goal

pub returns-then-names-ne0 : goal.returns-then-names-ne0
returns-then-names-ne0 c = search (odd_names, rules)

pub returns : goal.returns
returns c = search (pairs_of_names, rules)
