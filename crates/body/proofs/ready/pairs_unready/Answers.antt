use Rattle.body.proofs.PlanLoops.{pairs_start, pairs_ask, pairs_found_lem, pairs_on, pairs_end}
use borrow.Author.Rules.{rules}
use Rattle.body.proofs.ready.pairs_unready.Goals as goal

pub loop-i-init : goal.loop-i-init
loop-i-init c = search (pairs_start, rules)

pub first_unknown-found-requires : goal.first_unknown-found-requires
first_unknown-found-requires c = pairs_ask c.loop-i.invariant

pub returns-then-found-ne0 : goal.returns-then-found-ne0
returns-then-found-ne0 c = search (pairs_found_lem, rules)

pub loop-i-preserved : goal.loop-i-preserved
loop-i-preserved c = search (pairs_on, rules)

pub returns : goal.returns
returns c = search (pairs_end, rules)
