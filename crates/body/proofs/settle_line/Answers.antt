use Rattle.body.proofs.LineSteps.{name_unready, names_ready}
use borrow.Author.Rules.{rules}
use Rattle.body.proofs.settle_line.Goals as goal

pub returns-then-name-ne0 : goal.returns-then-name-ne0
returns-then-name-ne0 c = search (name_unready, rules)

pub returns : goal.returns
returns c = search (names_ready, rules)
