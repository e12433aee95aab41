use Rattle.table_fault.proofs.Walking.{few_fits, count_fits, looking_start, looking_ask, looking_on, looking_fails, looking_ends}
use borrow.Author.Rules.{rules}
use Rattle.table_fault.proofs.first_broken.Goals as goal

pub overflow_add-end : goal.overflow_add-end
overflow_add-end c = search (few_fits, rules)

pub overflow_cast-end : goal.overflow_cast-end
overflow_cast-end c = search (count_fits, rules)

pub loop-place-init : goal.loop-place-init
loop-place-init c = search (looking_start, rules)

pub is_kept-requires : goal.is_kept-requires
is_kept-requires c = search (looking_ask c.loop-place.invariant, rules)

pub returns-then-not-is_kept : goal.returns-then-not-is_kept
returns-then-not-is_kept c = search (looking_fails, rules)

pub loop-place-preserved : goal.loop-place-preserved
loop-place-preserved c = search (looking_on, rules)

pub returns : goal.returns
returns c = search (looking_ends, rules)
