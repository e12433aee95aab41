use Rattle.table.proofs.tests.Fresh.{apart_start, apart_on, apart_fails, apart_ends, ask_places}
use borrow.Author.Rules.{rules}
use Rattle.table.proofs.distinct.places_apart.Goals as goal

pub loop-n-init : goal.loop-n-init
loop-n-init c = search (apart_start, rules)

pub mark_places-requires : goal.mark_places-requires
mark_places-requires c = search (ask_places, rules)

pub returns-then-not-mark_places : goal.returns-then-not-mark_places
returns-then-not-mark_places c = search (apart_fails, rules)

pub loop-n-preserved : goal.loop-n-preserved
loop-n-preserved c = search (apart_on, rules)

pub returns : goal.returns
returns c = search (apart_ends, rules)
