use native.Mathlib.Omega.{arith}
use Rattle.planner.proofs.destructuring.Walking.{ask_items, child_falls}
use Rattle.planner.proofs.Left.{some_left, none_left, one_less, step_on}
use Rattle.report.proofs.KeyNames.{ask_object, ask_values, keys_none, keys_items, keys_fields, below_start, below_child, below_lower, below_on, below_fits, below_ends}
use borrow.Author.Rules.{rules}
use Rattle.report.proofs.keys.+mark_keys_mark_keys_below.Goals as goal

pub mark_keys-mark_keys_below-requires : goal.mark_keys-mark_keys_below-requires
mark_keys-mark_keys_below-requires t c = (omega arith, search (ask_items, rules))

pub mark_keys-returns-then-kind-eq-ARRAY : goal.mark_keys-returns-then-kind-eq-ARRAY
mark_keys-returns-then-kind-eq-ARRAY t c = search (keys_items, rules)

pub mark_keys-mark_object_keys-requires : goal.mark_keys-mark_object_keys-requires
mark_keys-mark_object_keys-requires t c = search (ask_object, rules)

pub mark_keys-mark_keys_below-requires-then-kind-eq-OBJECT : goal.mark_keys-mark_keys_below-requires-then-kind-eq-OBJECT
mark_keys-mark_keys_below-requires-then-kind-eq-OBJECT t c = (omega arith, search (ask_values, rules))

pub mark_keys-returns-then-kind-eq-OBJECT : goal.mark_keys-returns-then-kind-eq-OBJECT
mark_keys-returns-then-kind-eq-OBJECT t c = search (keys_fields, rules)

pub mark_keys-returns-else-kind-eq-OBJECT : goal.mark_keys-returns-else-kind-eq-OBJECT
mark_keys-returns-else-kind-eq-OBJECT t c = search (keys_none, rules)

pub mark_keys_below-loop-i-init : goal.mark_keys_below-loop-i-init
mark_keys_below-loop-i-init t c = search (below_start, rules)

pub mark_keys_below-mark_keys-requires : goal.mark_keys_below-mark_keys-requires
mark_keys_below-mark_keys-requires t c = (search (child_falls, below_lower, some_left, rules), search (below_child, some_left, rules))

pub mark_keys_below-overflow_mul-i : goal.mark_keys_below-overflow_mul-i
mark_keys_below-overflow_mul-i t c = search (below_fits, some_left, rules)

pub mark_keys_below-overflow_add-at : goal.mark_keys_below-overflow_add-at
mark_keys_below-overflow_add-at t c = search (below_fits, some_left, rules)

pub mark_keys_below-loop-i-preserved : goal.mark_keys_below-loop-i-preserved
mark_keys_below-loop-i-preserved t c = search (below_on, some_left, one_less, step_on, rules)

pub mark_keys_below-returns : goal.mark_keys_below-returns
mark_keys_below-returns t c = search (below_ends, none_left, rules)
