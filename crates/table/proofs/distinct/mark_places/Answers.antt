use Rattle.table.proofs.tests.Fresh.{marking_start, marking_on, marking_fails, marking_ends, place_low, place_fits}
use borrow.Author.Rules.{rules}
use Rattle.table.proofs.distinct.mark_places.Goals as goal

pub loop-i-init : goal.loop-i-init
loop-i-init c = search (marking_start, rules)

pub overflow_add-place : goal.overflow_add-place
overflow_add-place c = search (place_fits, rules)

pub bounds-used-place : goal.bounds-used-place
bounds-used-place c = search (place_low, rules)

pub returns-then-used-place-ne0 : goal.returns-then-used-place-ne0
returns-then-used-place-ne0 c = search (marking_fails, rules)

pub bounds-used-place-in-loop-i : goal.bounds-used-place-in-loop-i
bounds-used-place-in-loop-i c = search (place_low, rules)

pub loop-i-preserved : goal.loop-i-preserved
loop-i-preserved c = search (marking_on, rules)

pub returns : goal.returns
returns c = search (marking_ends, rules)
