use Rattle.body.proofs.SideCases.{line_value, line_key}
use borrow.Author.Rules.{rules}
use Rattle.body.proofs.ready.line_unready.Goals as goal

pub returns-then-found-ne0 : goal.returns-then-found-ne0
returns-then-found-ne0 c = search (line_value, rules)

pub returns : goal.returns
returns c = search (line_key, rules)
