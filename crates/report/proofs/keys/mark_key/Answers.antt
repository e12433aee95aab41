use Rattle.report.proofs.KeyNames.{key_low, key_place, key_computed, key_underscore, key_named}
use borrow.Author.Rules.{rules}
use Rattle.report.proofs.keys.mark_key.Goals as goal

pub overflow_sub-at : goal.overflow_sub-at
overflow_sub-at c = search (key_low, rules)

pub bounds-states-at : goal.bounds-states-at
bounds-states-at c = search (key_place, rules)

pub bounds-met-at : goal.bounds-met-at
bounds-met-at c = search (key_place, rules)

pub returns-then-states-at-ne2 : goal.returns-then-states-at-ne2
returns-then-states-at-ne2 c = search (key_named, rules)

pub returns-else-states-at-ne2 : goal.returns-else-states-at-ne2
returns-else-states-at-ne2 c = search (key_underscore, rules)

pub returns-else-kind_of-eq-NAME : goal.returns-else-kind_of-eq-NAME
returns-else-kind_of-eq-NAME c = search (key_computed, rules)
