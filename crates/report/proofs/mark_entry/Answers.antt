use Rattle.report.proofs.Reporting.{bound_low, bound_place, marked_one, marked_none}
use borrow.Author.Rules.{rules}
use Rattle.report.proofs.mark_entry.Goals as goal

pub overflow_sub-list : goal.overflow_sub-list
overflow_sub-list c = search (bound_low, rules)

pub bounds-list-name : goal.bounds-list-name
bounds-list-name c = search (bound_place, rules)

pub returns-then-kind-eq-BIND : goal.returns-then-kind-eq-BIND
returns-then-kind-eq-BIND c = search (marked_one, rules)

pub returns-else-kind-eq-BIND : goal.returns-else-kind-eq-BIND
returns-else-kind-eq-BIND c = search (marked_none, rules)
