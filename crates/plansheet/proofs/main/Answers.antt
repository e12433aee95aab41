use Rattle.sheet.proofs.laws.Output.{written_inside, written_prefix}
use borrow.Author.Rules.{rules}
use Rattle.plansheet.proofs.main.Goals as goal

pub slice_bounds-listing-end : goal.slice_bounds-listing-end
slice_bounds-listing-end c = search (written_inside, rules)

pub slice_bounds-write_all-end : goal.slice_bounds-write_all-end
slice_bounds-write_all-end c = search (written_prefix, rules)
