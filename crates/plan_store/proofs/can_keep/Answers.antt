use Rattle.plan_store.proofs.Cases.{can_no_store, can_some, can_past, can_zero, can_above, can_share, can_used, can_test}
use borrow.Author.Rules.{rules}
use Rattle.plan_store.proofs.can_keep.Goals as goal

pub returns-in_default : goal.returns-in_default
returns-in_default c = search (can_no_store, rules)

pub returns-then-plan-entries : goal.returns-then-plan-entries
returns-then-plan-entries c = search (can_past, rules)

pub returns-then-pack-eq0 : goal.returns-then-pack-eq0
returns-then-pack-eq0 c = search (can_zero, rules)

pub bounds-store-0 : goal.bounds-store-0
bounds-store-0 c = search (can_some, rules)

pub returns-then-store-pack : goal.returns-then-store-pack
returns-then-store-pack c = search (can_above, rules)

pub bounds-store-at : goal.bounds-store-at
bounds-store-at c = search (can_share, rules)

pub bounds-store-at-2 : goal.bounds-store-at-2
bounds-store-at-2 c = search (can_used, rules)

pub returns : goal.returns
returns c = search (can_test, rules)
