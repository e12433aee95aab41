use Rattle.sheet.proofs.lines.LineTests.{feed_past}
use borrow.Author.Rules.{rules}
use Rattle.sheet.proofs.lines.is_line_feed.Goals as goal

pub returns : goal.returns
returns c = search (feed_past, rules)
