use Rattle.literal.proofs.Chunks.{prefix_start, chunk_on}
use borrow.Author.Rules.{rules}
use Rattle.literal.proofs.order.same_chunks.Goals as goal

pub loop-k-init : goal.loop-k-init
loop-k-init c = search (prefix_start, rules)

pub loop-k-preserved : goal.loop-k-preserved
loop-k-preserved c = search (chunk_on, rules)
