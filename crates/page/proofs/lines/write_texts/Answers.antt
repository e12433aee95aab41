use Rattle.page.proofs.PageLines.{texts_written}
use borrow.Author.Rules.{rules}
use Rattle.page.proofs.lines.write_texts.Goals as goal

pub returns : goal.returns
returns c = search (texts_written, rules)
