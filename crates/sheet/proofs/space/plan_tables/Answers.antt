use Rattle.sheet.proofs.space.SpaceTests.{nodes_inside, children_inside, numbers_inside, names_inside, strings_before, text_before, text_inside, end_inside, cut, tables_planned}
use borrow.Author.Rules.{rules}
use Rattle.sheet.proofs.space.plan_tables.Goals as goal

pub slice_bounds-tables-end : goal.slice_bounds-tables-end
slice_bounds-tables-end c = search (cut, nodes_inside, rules)

pub slice_bounds-tables-end-2 : goal.slice_bounds-tables-end-2
slice_bounds-tables-end-2 c = search (cut, children_inside, rules)

pub slice_bounds-tables-end-3 : goal.slice_bounds-tables-end-3
slice_bounds-tables-end-3 c = search (cut, numbers_inside, rules)

pub slice_bounds-tables-end-4 : goal.slice_bounds-tables-end-4
slice_bounds-tables-end-4 c = search (cut, names_inside, rules)

pub slice_bounds-tables-count : goal.slice_bounds-tables-count
slice_bounds-tables-count c = search (strings_before, rules)

pub slice_bounds-tables-start : goal.slice_bounds-tables-start
slice_bounds-tables-start c = search (strings_before, rules)

pub slice_bounds-tables-end-5 : goal.slice_bounds-tables-end-5
slice_bounds-tables-end-5 c = search (text_inside, rules)

pub slice_bounds-tables-count-2 : goal.slice_bounds-tables-count-2
slice_bounds-tables-count-2 c = search (text_before, rules)

pub slice_bounds-tables-start-2 : goal.slice_bounds-tables-start-2
slice_bounds-tables-start-2 c = search (text_before, rules)

pub slice_bounds-tables-end-6 : goal.slice_bounds-tables-end-6
slice_bounds-tables-end-6 c = search (end_inside, rules)

pub returns : goal.returns
returns c = tables_planned c.requires c.operation_of.ensures c.plan-answer.ensures c.row_of.ensures
