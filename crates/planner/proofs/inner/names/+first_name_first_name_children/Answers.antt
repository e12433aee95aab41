use native.Mathlib.Omega.{arith}
use Rattle.planner.proofs.destructuring.Walking.{ask_name, child_falls}
use Rattle.planner.proofs.Left.{some_left, none_left, one_less, step_on}
use Rattle.planner.proofs.laws.Names.{found_name, span_asks, span_found, looking_start, looking_child, looking_below, looking_on, looking_found, looking_fits, looking_ends}
use borrow.Author.Rules.{rules}
use Rattle.planner.proofs.inner.names.+first_name_first_name_children.Goals as goal

pub first_name-marked_node-requires : goal.first_name-marked_node-requires
first_name-marked_node-requires t c = search (ask_name, rules)

pub first_name-returns-then-kind_of-eq-NAME : goal.first_name-returns-then-kind_of-eq-NAME
first_name-returns-then-kind_of-eq-NAME t c = search (found_name, rules)

pub first_name-first_name_children-requires : goal.first_name-first_name_children-requires
first_name-first_name_children-requires t c = (omega arith, search (span_asks, rules))

pub first_name-returns : goal.first_name-returns
first_name-returns t c = search (span_found, rules)

pub first_name_children-loop-i-init : goal.first_name_children-loop-i-init
first_name_children-loop-i-init t c = search (looking_start, rules)

pub first_name_children-first_name-found-requires : goal.first_name_children-first_name-found-requires
first_name_children-first_name-found-requires t c = (search (child_falls, looking_below, some_left, rules), search (looking_child, some_left, rules))

pub first_name_children-returns-then-found-ne0 : goal.first_name_children-returns-then-found-ne0
first_name_children-returns-then-found-ne0 t c = search (looking_found, some_left, rules)

pub first_name_children-overflow_mul-i : goal.first_name_children-overflow_mul-i
first_name_children-overflow_mul-i t c = search (looking_fits, some_left, rules)

pub first_name_children-overflow_add-at : goal.first_name_children-overflow_add-at
first_name_children-overflow_add-at t c = search (looking_fits, some_left, rules)

pub first_name_children-loop-i-preserved : goal.first_name_children-loop-i-preserved
first_name_children-loop-i-preserved t c = search (looking_on, some_left, one_less, step_on, rules)

pub first_name_children-returns : goal.first_name_children-returns
first_name_children-returns t c = search (looking_ends, none_left, rules)
