use Rattle.plan_store.proofs.head.Writing.{heading_second}
use Rattle.plan_store.proofs.head.Writing.{heading_start, heading_on, heading_ends}
use borrow.Author.Rules.{rules}
use Rattle.plan_store.proofs.head.write_head.Goals as goal

pub loop-i-init : goal.loop-i-init
loop-i-init c = search (heading_start, rules)

pub bounds-store-i-in-loop-i : goal.bounds-store-i-in-loop-i
bounds-store-i-in-loop-i c = search (heading_second, rules)

pub loop-i-preserved : goal.loop-i-preserved
loop-i-preserved c = search (heading_on, rules)

pub returns : goal.returns
returns c = search (heading_ends, rules)
