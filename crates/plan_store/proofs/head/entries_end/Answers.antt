use Rattle.plan_store.proofs.head.Places.{among_some, among_twice, among_first, ending_five, ending_next}
use Rattle.plan_store.proofs.head.Places.{ending_start, ending_on, ending_ends}
use borrow.Author.Rules.{rules}
use Rattle.plan_store.proofs.head.entries_end.Goals as goal

pub bounds-store-0 : goal.bounds-store-0
bounds-store-0 c = search (among_some, rules)

pub overflow_mul-end : goal.overflow_mul-end
overflow_mul-end c = search (among_twice, rules)

pub overflow_add-end : goal.overflow_add-end
overflow_add-end c = search (among_first, rules)

pub loop-i-init : goal.loop-i-init
loop-i-init c = search (ending_start, rules)

pub overflow_mul-end-in-loop-i : goal.overflow_mul-end-in-loop-i
overflow_mul-end-in-loop-i c = search (ending_five, rules)

pub overflow_add-end-in-loop-i : goal.overflow_add-end-in-loop-i
overflow_add-end-in-loop-i c = search (ending_next, rules)

pub loop-i-preserved : goal.loop-i-preserved
loop-i-preserved c = search (ending_on, rules)

pub returns : goal.returns
returns c = search (ending_ends, rules)
