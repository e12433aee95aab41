use Rattle.table_fault.proofs.Earlier.{unused_start, ask_overlap, unused_on, unused_fails, unused_ends}
use borrow.Author.Rules.{rules}
use Rattle.table_fault.proofs.repeats.has_new_places.Goals as goal

pub loop-other-init : goal.loop-other-init
loop-other-init c = search (unused_start, rules)

pub overlap-requires : goal.overlap-requires
overlap-requires c = search (ask_overlap, rules)

pub returns-then-overlap : goal.returns-then-overlap
returns-then-overlap c = search (unused_fails, rules)

pub loop-other-preserved : goal.loop-other-preserved
loop-other-preserved c = search (unused_on c.loop-other.invariant, rules)

pub returns : goal.returns
returns c = search (unused_ends, rules)
