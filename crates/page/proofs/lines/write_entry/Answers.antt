use Rattle.page.proofs.EntryLines.{source_ordered, source_inside, entry_written}
use borrow.Author.Rules.{rules}
use Rattle.page.proofs.lines.write_entry.Goals as goal

pub slice_bounds-write_line-count : goal.slice_bounds-write_line-count
slice_bounds-write_line-count c = search (source_ordered, rules)

pub slice_bounds-write_line-start : goal.slice_bounds-write_line-start
slice_bounds-write_line-start c = search (source_ordered, rules)

pub slice_bounds-write_line-end : goal.slice_bounds-write_line-end
slice_bounds-write_line-end c = source_inside _ _ c.source_of-source.ensures

pub slice_bounds-write_line-count-2 : goal.slice_bounds-write_line-count-2
slice_bounds-write_line-count-2 c = search (source_ordered, rules)

pub slice_bounds-write_line-start-2 : goal.slice_bounds-write_line-start-2
slice_bounds-write_line-start-2 c = search (source_ordered, rules)

pub slice_bounds-write_line-end-2 : goal.slice_bounds-write_line-end-2
slice_bounds-write_line-end-2 c = source_inside _ _ c.source_of-key.ensures

pub returns : goal.returns
returns c = search (entry_written, rules)
