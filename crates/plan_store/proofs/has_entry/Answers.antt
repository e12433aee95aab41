use Rattle.plan_store.proofs.Reading.{has_no_store, has_some, has_zero, has_above, has_used, has_test}
use borrow.Author.Rules.{rules}
use Rattle.plan_store.proofs.has_entry.Goals as goal

pub returns-then-not-is_store : goal.returns-then-not-is_store
returns-then-not-is_store c = search (has_no_store, rules)

pub returns-then-pack-eq0 : goal.returns-then-pack-eq0
returns-then-pack-eq0 c = search (has_zero, rules)

pub bounds-store-0 : goal.bounds-store-0
bounds-store-0 c = search (has_some, rules)

pub returns-then-store-pack : goal.returns-then-store-pack
returns-then-store-pack c = search (has_above, rules)

pub bounds-store-pack : goal.bounds-store-pack
bounds-store-pack c = search (has_used, rules)

pub returns : goal.returns
returns c = search (has_test, rules)
