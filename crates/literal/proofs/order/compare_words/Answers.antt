use Rattle.literal.proofs.Chunks.{word_on, word_differs}
use borrow.Author.Rules.{rules}
use Rattle.literal.proofs.order.compare_words.Goals as goal

pub returns-then-x-y : goal.returns-then-x-y
returns-then-x-y c = search (word_differs, rules)

pub loop-k-preserved : goal.loop-k-preserved
loop-k-preserved c = search (word_on {shorter = c.min-words.result} c.loop-k.invariant, rules)
