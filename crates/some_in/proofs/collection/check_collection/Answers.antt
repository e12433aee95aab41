use Rattle.some_in.proofs.Collections.{collection_other, ask_items, collection_items}
use borrow.Author.Rules.{rules}
use Rattle.some_in.proofs.collection.check_collection.Goals as goal

pub returns-then-kind_of-ne-ARRAY : goal.returns-then-kind_of-ne-ARRAY
returns-then-kind_of-ne-ARRAY c = search (collection_other, rules)

pub check_collection_items-requires : goal.check_collection_items-requires
check_collection_items-requires c = search (ask_items, rules)

pub returns : goal.returns
returns c = search (collection_items, rules)
