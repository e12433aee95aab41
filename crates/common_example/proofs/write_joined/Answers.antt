use Rattle.common_example.proofs.arrays.Common.{example_asks, written_ends}
use borrow.Author.Rules.{rules}
use Rattle.common_example.proofs.write_joined.Goals as goal

pub write_example-requires : goal.write_example-requires
write_example-requires c = example_asks c.requires c.node_place-place.ensures

pub returns : goal.returns
returns c = search (written_ends, rules)
