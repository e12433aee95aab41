use Rattle.table.proofs.tests.Fresh.{distinct_start, distinct_on, distinct_fails, distinct_ends, entry_low, entry_fits}
use borrow.Author.Rules.{rules}
use Rattle.table.proofs.distinct.distinct_entries.Goals as goal

pub loop-i-init : goal.loop-i-init
loop-i-init c = search (distinct_start, rules)

pub overflow_cast-entry : goal.overflow_cast-entry
overflow_cast-entry c = search (entry_fits, rules)

pub bounds-used-entry : goal.bounds-used-entry
bounds-used-entry c = search (entry_low, rules)

pub returns-then-used-entry-ne0 : goal.returns-then-used-entry-ne0
returns-then-used-entry-ne0 c = search (distinct_fails, rules)

pub bounds-used-entry-in-loop-i : goal.bounds-used-entry-in-loop-i
bounds-used-entry-in-loop-i c = search (entry_low, rules)

pub loop-i-preserved : goal.loop-i-preserved
loop-i-preserved c = search (distinct_on, rules)

pub returns : goal.returns
returns c = search (distinct_ends, rules)
