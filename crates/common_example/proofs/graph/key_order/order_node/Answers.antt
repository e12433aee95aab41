use Rattle.common_example.proofs.loops.graph.KeyOrderLoops.{unmarked_kept, other_kept, simple_object}
use borrow.Author.Rules.{rules}
use Rattle.common_example.proofs.graph.key_order.order_node.Goals as goal

pub returns-then-marks-node-ne1 : goal.returns-then-marks-node-ne1
returns-then-marks-node-ne1 c = search (unmarked_kept, rules)

pub returns-then-kind_of-ne-OBJECT : goal.returns-then-kind_of-ne-OBJECT
returns-then-kind_of-ne-OBJECT c = search (other_kept, rules)

pub order_object-requires : goal.order_object-requires
order_object-requires c = search (simple_object c.requires, rules)
