use Rattle.literal.proofs.Chunks.{word_said}
use borrow.Author.Rules.{rules}
use Rattle.literal.proofs.order.word_at.Goals as goal

pub returns : goal.returns
returns c = search (word_said, rules)
