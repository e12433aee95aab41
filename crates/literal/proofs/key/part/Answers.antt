use Rattle.literal.proofs.Keys.{range_end, range_fits, part_held, part_missing}
use borrow.Author.Rules.{rules}
use Rattle.literal.proofs.key.part.Goals as goal

pub overflow_add-result : goal.overflow_add-result
overflow_add-result c = search (range_fits, rules)

pub slice_bounds-result-end : goal.slice_bounds-result-end
slice_bounds-result-end c = search (range_end, rules)

pub returns-then-has_range : goal.returns-then-has_range
returns-then-has_range c = search (part_held, rules)

pub returns : goal.returns
returns c = search (part_missing, rules)
