use Rattle.body.proofs.Searching.{both_first, both_second}
use borrow.Author.Rules.{rules}
use Rattle.body.proofs.ready.both_unknown.Goals as goal

pub returns-then-found-ne0 : goal.returns-then-found-ne0
returns-then-found-ne0 c = search (both_first, rules)

pub returns : goal.returns
returns c = search (both_second, rules)
