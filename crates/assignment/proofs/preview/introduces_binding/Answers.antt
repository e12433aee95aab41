use Rattle.assignment.proofs.entries.Reading.{scanning_start, any_far, any_past, any_binds, any_ignores, any_on, any_ends}
use borrow.Author.Rules.{rules}
use Rattle.assignment.proofs.preview.introduces_binding.Goals as goal

pub loop-i-init : goal.loop-i-init
loop-i-init c = search (scanning_start, rules)

pub returns-then-scratch-i : goal.returns-then-scratch-i
returns-then-scratch-i c = search (any_far, rules)

pub returns-then-scratch-at : goal.returns-then-scratch-at
returns-then-scratch-at c = search (any_past, rules)

pub returns-then-kind-eq-BIND : goal.returns-then-kind-eq-BIND
returns-then-kind-eq-BIND c = search (any_binds, rules)

pub returns-then-kind-eq-IGNORE : goal.returns-then-kind-eq-IGNORE
returns-then-kind-eq-IGNORE c = search (any_ignores, rules)

pub loop-i-preserved : goal.loop-i-preserved
loop-i-preserved c = search (any_on, rules)

pub returns : goal.returns
returns c = search (any_ends, rules)
