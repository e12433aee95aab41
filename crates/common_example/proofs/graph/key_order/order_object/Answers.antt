use Rattle.common_example.proofs.loops.graph.KeyOrderLoops.{object_order, object_copy, object_ordered}
use borrow.Author.Rules.{rules}
use Rattle.common_example.proofs.graph.key_order.order_object.Goals as goal

pub order_fields-total-requires : goal.order_fields-total-requires
order_fields-total-requires c = search (object_order, rules)

pub copy_fields-requires : goal.copy_fields-requires
copy_fields-requires c = search (object_copy, rules)

pub returns : goal.returns
returns c = search (object_ordered, rules)
