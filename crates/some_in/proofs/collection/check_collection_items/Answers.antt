use Rattle.some_in.proofs.Collections.{items_empty, items_fit, first_pair, items_first}
use borrow.Author.Rules.{rules}
use Rattle.some_in.proofs.collection.check_collection_items.Goals as goal

pub returns-then-left-eq0 : goal.returns-then-left-eq0
returns-then-left-eq0 c = search (items_empty, rules)

pub returns-then-any_fits : goal.returns-then-any_fits
returns-then-any_fits c = search (items_fit, rules)

pub check_literal_structure-requires : goal.check_literal_structure-requires
check_literal_structure-requires c = search (first_pair, rules)

pub returns : goal.returns
returns c = search (items_first, rules)
