use Rattle.body.proofs.SideCases.{line_low, line_by}
use borrow.Author.Rules.{rules}
use Rattle.body.proofs.lines.is_line.Goals as goal

pub returns-then-number-lt2 : goal.returns-then-number-lt2
returns-then-number-lt2 c = search (line_low, rules)

pub returns : goal.returns
returns c = search (line_by, rules)
