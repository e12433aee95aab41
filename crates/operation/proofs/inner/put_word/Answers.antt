use Rattle.operation.proofs.RowLaws.{no_place}
use borrow.Author.Rules.{rules}
use Rattle.operation.proofs.inner.put_word.Goals as goal

pub returns-then-words-i : goal.returns-then-words-i
returns-then-words-i c = search (no_place, rules)
