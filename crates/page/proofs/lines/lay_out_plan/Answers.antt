use Rattle.page.proofs.EntryLines.{pages_past, pages_laid}
use borrow.Author.Rules.{rules}
use Rattle.page.proofs.lines.lay_out_plan.Goals as goal

pub returns-then-out-lines : goal.returns-then-out-lines
returns-then-out-lines c = search (pages_past, rules)

pub returns : goal.returns
returns c = search (pages_laid, rules)
