use Rattle.run.proofs.Valued.{known_told}
use borrow.Author.Rules.{rules}
use Rattle.run.proofs.inner.names.known_listed.Goals as goal

pub returns : goal.returns
returns c = search (known_told, rules)
