use Rattle.operation.proofs.RowLaws.{words_told}
use borrow.Author.Rules.{rules}
use Rattle.operation.proofs.inner.tell.Goals as goal

pub returns : goal.returns
returns c = search (words_told, rules)
