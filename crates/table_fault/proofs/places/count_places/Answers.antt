use Rattle.table_fault.proofs.Tests.{places_whole, places_named, places_numbered, places_entries, places_twice, places_marked, places_equal, places_nodes}
use borrow.Author.Rules.{rules}
use Rattle.table_fault.proofs.places.count_places.Goals as goal

pub returns-then-rule-le-LAST_WHOLE : goal.returns-then-rule-le-LAST_WHOLE
returns-then-rule-le-LAST_WHOLE c = search (places_whole, rules)

pub returns-in-10 : goal.returns-in-10
returns-in-10 c = search (places_named, rules)

pub returns-in-11 : goal.returns-in-11
returns-in-11 c = search (places_numbered, rules)

pub returns-in-12 : goal.returns-in-12
returns-in-12 c = search (places_entries, rules)

pub returns-in-19 : goal.returns-in-19
returns-in-19 c = search (places_twice, rules)

pub returns-in-21 : goal.returns-in-21
returns-in-21 c = search (places_marked, rules)

pub returns-in-23 : goal.returns-in-23
returns-in-23 c = search (places_equal, rules)

pub returns-in_default : goal.returns-in_default
returns-in_default c = search (places_nodes, rules)
