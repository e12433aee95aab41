use Rattle.common_example.proofs.loops.graph.LikeLoops.{liking_start, liking_place, liking_add, liking_on, liking_ends}
use borrow.Author.Rules.{rules}
use Rattle.common_example.proofs.graph.likes.like_nodes.Goals as goal

pub loop-i-init : goal.loop-i-init
loop-i-init c = search (liking_start, rules)

pub overflow_add-node : goal.overflow_add-node
overflow_add-node c = search (liking_place, rules)

pub overflow_cast-node : goal.overflow_cast-node
overflow_cast-node c = search (liking_place, rules)

pub add_node-added-requires : goal.add_node-added-requires
add_node-added-requires c = search (liking_add, rules)

pub offset_bounds-like-i : goal.offset_bounds-like-i
offset_bounds-like-i c = search (liking_place, rules)

pub bounds-like-i : goal.bounds-like-i
bounds-like-i c = search (liking_place, rules)

pub loop-i-preserved : goal.loop-i-preserved
loop-i-preserved c = search (liking_on, rules)

pub returns : goal.returns
returns c = search (liking_ends, rules)
