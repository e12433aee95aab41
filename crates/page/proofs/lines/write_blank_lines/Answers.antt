use Rattle.page.proofs.PageLines.{lining_start, blanks_on, blanks_end}
use borrow.Author.Rules.{rules}
use Rattle.page.proofs.lines.write_blank_lines.Goals as goal

pub loop-line-init : goal.loop-line-init
loop-line-init c = search (lining_start, rules)

pub loop-line-preserved : goal.loop-line-preserved
loop-line-preserved c = search (blanks_on, rules)

pub returns : goal.returns
returns c = search (blanks_end, rules)
