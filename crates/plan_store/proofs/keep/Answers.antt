use Rattle.plan_store.proofs.Cases.{keep_refused, keep_asks, keep_used}
use Rattle.plan_store.proofs.rows.Keeping.{keep_count, keep_place, keep_done}
use borrow.Author.Rules.{rules}
use Rattle.plan_store.proofs.keep.Goals as goal

pub returns-then-not-can_keep : goal.returns-then-not-can_keep
returns-then-not-can_keep c = search (keep_refused, rules)

pub bounds-store-at : goal.bounds-store-at
bounds-store-at c = search (keep_used, rules)

pub insert_plan-requires : goal.insert_plan-requires
insert_plan-requires c = search (keep_asks, rules)

pub overflow_add-store : goal.overflow_add-store
overflow_add-store c = search (keep_count, rules)

pub bounds-store-at-2 : goal.bounds-store-at-2
bounds-store-at-2 c = search (keep_place, rules)

pub returns : goal.returns
returns c = search (keep_done, rules)
