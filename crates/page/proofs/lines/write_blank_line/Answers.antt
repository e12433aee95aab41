use Rattle.page.proofs.PageLines.{blank_written, byte_kept}
use borrow.Author.Rules.{rules}
use Rattle.page.proofs.lines.write_blank_line.Goals as goal

pub shape_of-out : goal.shape_of-out
shape_of-out c = search (byte_kept, rules)

pub returns : goal.returns
returns c = search (blank_written, rules)
