use Rattle.scope.proofs.Cases.{marked_is}
use borrow.Author.Rules.{rules}
use Rattle.scope.proofs.bytes.marked.Goals as goal

pub returns : goal.returns
returns c = search (marked_is, rules)
