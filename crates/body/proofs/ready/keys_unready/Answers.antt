use native.Mathlib.Omega.{arith}
use Rattle.body.proofs.PlanLoops.{keys_start, keys_ask, keys_found_lem, keys_on, keys_end}
use borrow.Author.Rules.{rules}
use Rattle.body.proofs.ready.keys_unready.Goals as goal

pub loop-i-init : goal.loop-i-init
loop-i-init c = search (keys_start, rules)

pub first_unknown-found-requires : goal.first_unknown-found-requires
first_unknown-found-requires c = keys_ask c.loop-i.invariant

pub returns-then-found-ne0 : goal.returns-then-found-ne0
returns-then-found-ne0 c = search (keys_found_lem, rules)

pub loop-i-smaller : goal.loop-i-smaller
loop-i-smaller c = let more = c.loop-i-test.true in
    omega arith

pub loop-i-preserved : goal.loop-i-preserved
loop-i-preserved c = search (keys_on c.loop-i.invariant c.loop-i-test.true, c.key_node.ensures, c.first_unknown-found.ensures, c.scope_from-from.ensures, c.states_from.ensures, c.bind_entry-next.ensures, c.learn_entry.ensures, rules)

pub returns : goal.returns
returns c = search (keys_end, rules)
