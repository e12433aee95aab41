use Rattle.assignment.proofs.entries.Reading.{scanning_start, first_found, first_on, first_ends}
use borrow.Author.Rules.{rules}
use Rattle.assignment.proofs.entries.first_same_scope.Goals as goal

pub loop-i-init : goal.loop-i-init
loop-i-init c = (search (scanning_start, rules), search rules)

pub returns-then-bound_here : goal.returns-then-bound_here
returns-then-bound_here c = search (first_found, rules)

pub loop-i-preserved : goal.loop-i-preserved
loop-i-preserved c = (first_on _ _ c.loop-i.invariant.0 c.loop-i-test.true c.bound_here.ensures c.if-bound_here.false, search rules)

pub returns : goal.returns
returns c = search (first_ends, rules)
