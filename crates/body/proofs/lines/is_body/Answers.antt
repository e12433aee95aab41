use Rattle.body.proofs.SideCases.{body_broken, body_empty, body_long, body_by}
use borrow.Author.Rules.{rules}
use Rattle.body.proofs.lines.is_body.Goals as goal

pub returns-then-lines-ne0 : goal.returns-then-lines-ne0
returns-then-lines-ne0 c = search (body_broken, rules)

pub returns-then-count-lt1 : goal.returns-then-count-lt1
returns-then-count-lt1 c = search (body_empty, rules)

pub returns-then-count-gt-LINES : goal.returns-then-count-gt-LINES
returns-then-count-gt-LINES c = search (body_long, rules)

pub returns : goal.returns
returns c = search (body_by, rules)
