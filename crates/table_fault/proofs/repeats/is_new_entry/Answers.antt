use Rattle.table_fault.proofs.Earlier.{unmet_start, unmet_room, unmet_on, unmet_fails, unmet_ends}
use borrow.Author.Rules.{rules}
use Rattle.table_fault.proofs.repeats.is_new_entry.Goals as goal

pub loop-i-init : goal.loop-i-init
loop-i-init c = search (unmet_start, rules)

pub bounds-children-i : goal.bounds-children-i
bounds-children-i c = search (unmet_room, rules)

pub returns-then-children-i : goal.returns-then-children-i
returns-then-children-i c = search (unmet_fails, rules)

pub loop-i-preserved : goal.loop-i-preserved
loop-i-preserved c = search (unmet_on, rules)

pub returns : goal.returns
returns c = search (unmet_ends, rules)
