use Rattle.common_example.proofs.loops.graph.LiteralOrder.{count_fits, ask_find, found_place, place_fits, added_none, added_old, added_new}
use borrow.Author.Rules.{rules}
use Rattle.common_example.proofs.graph.likes.add_node.Goals as goal

pub returns-then-not-same_literals : goal.returns-then-not-same_literals
returns-then-not-same_literals c = search (added_none, rules)

pub find_literal-requires : goal.find_literal-requires
find_literal-requires c = search (ask_find, rules)

pub offset_bounds-order-place : goal.offset_bounds-order-place
offset_bounds-order-place c = search (place_fits, rules)

pub bounds-order-place : goal.bounds-order-place
bounds-order-place c = search (found_place, rules)

pub returns-in-Ok : goal.returns-in-Ok
returns-in-Ok c = search (added_old, rules)

pub overflow_add-result : goal.overflow_add-result
overflow_add-result c = search (count_fits, rules)

pub returns-in-Err : goal.returns-in-Err
returns-in-Err c = search (added_new, rules)
