use Rattle.sheet.proofs.laws.Output.{written_inside, written_prefix}
use borrow.Author.Rules.{rules}
use Rattle.plan_pages.proofs.print_refusal.Goals as goal

pub slice_bounds-line-end : goal.slice_bounds-line-end
slice_bounds-line-end g c = search (written_inside, rules)

pub slice_bounds-write_all-end : goal.slice_bounds-write_all-end
slice_bounds-write_all-end g c = search (written_prefix, rules)
