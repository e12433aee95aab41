use native.Mathlib.Omega.{arith}
use Rattle.planner.proofs.destructuring.Walking.{ask_name, child_falls}
use Rattle.planner.proofs.destructuring.FirstPass.{decided_name, decided_below, decide_fits, counted_name, below_room, counted_below, counting_first, counting_child, counting_children, counted_children, deciding_start, deciding_child, deciding_below, deciding_on, deciding_fits, deciding_ends}
use Rattle.planner.proofs.Left.{some_left, none_left, one_less, step_on}
use Rattle.planner.proofs.laws.Names.{span_asks}
use borrow.Author.Rules.{rules}
use Rattle.planner.proofs.inner.destructuring.+decide_decide_children.Goals as goal

pub decide-overflow_add-steps : goal.decide-overflow_add-steps
decide-overflow_add-steps t c = search (decide_fits, rules)

pub decide-decide_name-requires : goal.decide-decide_name-requires
decide-decide_name-requires t c = search (ask_name, rules)

pub decide-returns-then-kind_of-eq-NAME-clause-bound : goal.decide-returns-then-kind_of-eq-NAME-clause-bound
decide-returns-then-kind_of-eq-NAME-clause-bound t c = search (decided_name, rules)

pub decide-returns-then-kind_of-eq-NAME-clause-counted : goal.decide-returns-then-kind_of-eq-NAME-clause-counted
decide-returns-then-kind_of-eq-NAME-clause-counted t c = search (counted_name, rules)

pub decide-decide_children-requires : goal.decide-decide_children-requires
decide-decide_children-requires t c = let walks = c.requires.walks in
    let span = c.span_of-span.ensures in
    (omega arith, (search (span_asks, walks, span, rules), search (below_room, walks, span, rules)))

pub decide-returns-clause-bound : goal.decide-returns-clause-bound
decide-returns-clause-bound t c = search (decided_below, rules)

pub decide-returns-clause-counted : goal.decide-returns-clause-counted
decide-returns-clause-counted t c = search (counted_below, rules)

pub decide_children-loop-i-init : goal.decide_children-loop-i-init
decide_children-loop-i-init t c = (search (deciding_start, rules), search (counting_first, rules))

pub decide_children-decide-requires : goal.decide_children-decide-requires
decide_children-decide-requires t c = (search (child_falls, deciding_below, some_left, rules), (search (deciding_child, some_left, rules), search (counting_child, some_left, rules)))

pub decide_children-overflow_mul-i : goal.decide_children-overflow_mul-i
decide_children-overflow_mul-i t c = search (deciding_fits, some_left, rules)

pub decide_children-overflow_add-at : goal.decide_children-overflow_add-at
decide_children-overflow_add-at t c = search (deciding_fits, some_left, rules)

pub decide_children-loop-i-preserved : goal.decide_children-loop-i-preserved
decide_children-loop-i-preserved t c = (search (deciding_on, some_left, one_less, step_on, rules), search (counting_children, some_left, one_less, step_on, rules))

pub decide_children-returns-clause-bound : goal.decide_children-returns-clause-bound
decide_children-returns-clause-bound t c = search (deciding_ends, none_left, rules)

pub decide_children-returns-clause-counted : goal.decide_children-returns-clause-counted
decide_children-returns-clause-counted t c = search (counted_children, none_left, rules)
