use Rattle.sheet.proofs.space.SpaceTests.{most_nodes, few_nodes}
use borrow.Author.Rules.{rules}
use Rattle.sheet.proofs.space.list_headed.Goals as goal

pub list_in-requires : goal.list_in-requires
list_in-requires c = search (most_nodes, rules)

pub list_in-requires-2 : goal.list_in-requires-2
list_in-requires-2 c = search (few_nodes, rules)
