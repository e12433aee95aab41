use Rattle.common_example.proofs.loops.graph.KeyOrderLoops.{ordering_start, ordering_fits, ordering_asks, ordering_on, ordering_ends}
use borrow.Author.Rules.{rules}
use Rattle.common_example.proofs.graph.key_order.order_children.Goals as goal

pub loop-n-init : goal.loop-n-init
loop-n-init c = search (ordering_start, rules)

pub overflow_add-n : goal.overflow_add-n
overflow_add-n c = search (ordering_fits, rules)

pub overflow_cast-n : goal.overflow_cast-n
overflow_cast-n c = search (ordering_fits, rules)

pub order_node-requires : goal.order_node-requires
order_node-requires c = search (ordering_asks, rules)

pub loop-n-preserved : goal.loop-n-preserved
loop-n-preserved c = search (ordering_on, rules)

pub returns : goal.returns
returns c = search (ordering_ends, rules)
