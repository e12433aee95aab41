use Rattle.plan_store.proofs.head.Writing.{clearing_some, clearing_start, clearing_on, clearing_ends}
use borrow.Author.Rules.{rules}
use Rattle.plan_store.proofs.head.clear_used.Goals as goal

pub bounds-store-0 : goal.bounds-store-0
bounds-store-0 c = search (clearing_some, rules)

pub loop-pack-init : goal.loop-pack-init
loop-pack-init c = search (clearing_start, rules)

pub loop-pack-preserved : goal.loop-pack-preserved
loop-pack-preserved c = search (clearing_on, rules)

pub returns : goal.returns
returns c = search (clearing_ends, rules)
