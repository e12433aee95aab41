use Rattle.page.proofs.PageLines.{front_written}
use borrow.Author.Rules.{rules}
use Rattle.page.proofs.lines.write_front.Goals as goal

pub returns : goal.returns
returns c = search (front_written, rules)
