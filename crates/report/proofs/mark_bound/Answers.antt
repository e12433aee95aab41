use Rattle.report.proofs.Reporting.{bound_start, bound_kind, bound_node, bound_entry_lem, bound_on, bound_long, bound_ends}
use borrow.Author.Rules.{rules}
use Rattle.report.proofs.mark_bound.Goals as goal

pub loop-i-init : goal.loop-i-init
loop-i-init c = search (bound_start, rules)

pub bounds-scratch-i : goal.bounds-scratch-i
bounds-scratch-i c = search (bound_kind, rules)

pub bounds-scratch-i-in-loop-i : goal.bounds-scratch-i-in-loop-i
bounds-scratch-i-in-loop-i c = search (bound_node, rules)

pub mark_entry-requires : goal.mark_entry-requires
mark_entry-requires c = search (bound_entry_lem, rules)

pub loop-i-preserved : goal.loop-i-preserved
loop-i-preserved c = search (bound_on, rules)

pub shape_of-list : goal.shape_of-list
shape_of-list c = search (bound_long, rules)

pub returns : goal.returns
returns c = search (bound_ends, rules)
