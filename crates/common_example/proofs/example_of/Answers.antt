use Rattle.common_example.proofs.arrays.Common.{first_list, second_list, give_asks, held_ends}
use borrow.Author.Rules.{rules}
use Rattle.common_example.proofs.example_of.Goals as goal

pub start_list-held1-requires : goal.start_list-held1-requires
start_list-held1-requires c = search (first_list, rules)

pub start_list-held2-requires : goal.start_list-held2-requires
start_list-held2-requires c = search (second_list, rules)

pub give_example-requires : goal.give_example-requires
give_example-requires c = search (give_asks c.requires c.start_list-held1.ensures c.start_list-held2.ensures, rules)

pub returns : goal.returns
returns c = search (held_ends, rules)
