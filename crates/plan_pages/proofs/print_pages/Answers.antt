use Rattle.page.proofs.SizeLaws.{pages_word, pages_within, pages_prefix}
use borrow.Author.Rules.{rules}
use Rattle.plan_pages.proofs.print_pages.Goals as goal

pub overflow_mul-pages : goal.overflow_mul-pages
overflow_mul-pages g c = search (pages_word, rules)

pub slice_bounds-pages-end : goal.slice_bounds-pages-end
slice_bounds-pages-end g c = search (pages_within, rules)

pub slice_bounds-write_all-end : goal.slice_bounds-write_all-end
slice_bounds-write_all-end g c = search (pages_prefix, rules)
