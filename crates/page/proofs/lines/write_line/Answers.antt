use Rattle.page.proofs.PageLines.{line_written, line_kept}
use borrow.Author.Rules.{rules}
use Rattle.page.proofs.lines.write_line.Goals as goal

pub shape_of-out : goal.shape_of-out
shape_of-out c = search (line_kept, rules)

pub returns : goal.returns
returns c = search (line_written, rules)
