use Rattle.common_example.proofs.loops.sizes.SizeLoops.{size_asks, leaf_size, array_asks, array_size, object_fits, object_asks, object_size}
use borrow.Author.Rules.{rules}
use Rattle.common_example.proofs.levels.place_size.Goals as goal

pub parts_at-requires : goal.parts_at-requires
parts_at-requires c = search (size_asks, rules)

pub returns-in_default : goal.returns-in_default
returns-in_default c = leaf_size c.requires c.parts_at.ensures c.in_default.is

pub sum_sizes-requires : goal.sum_sizes-requires
sum_sizes-requires c = array_asks c.requires c.parts_at.ensures c.in-Some.is c.in-Items.is

pub returns-in-Items : goal.returns-in-Items
returns-in-Items c = array_size c.requires c.parts_at.ensures c.in-Some.is c.in-Items.is c.sum_sizes.ensures

pub overflow_add-parts : goal.overflow_add-parts
overflow_add-parts c = object_fits c.requires c.parts_at.ensures c.in-Some.is c.in-Fields.is

pub sum_sizes-requires-in-Fields : goal.sum_sizes-requires-in-Fields
sum_sizes-requires-in-Fields c = object_asks c.requires c.parts_at.ensures c.in-Some.is c.in-Fields.is

pub returns-in-Fields : goal.returns-in-Fields
returns-in-Fields c = object_size c.requires c.parts_at.ensures c.in-Some.is c.in-Fields.is c.sum_sizes-in-Fields.ensures
