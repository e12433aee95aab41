use Rattle.literal.proofs.Chunks.{alike_start, alike_on, alike_ends}
use borrow.Author.Rules.{rules}
use Rattle.literal.proofs.order.same_chunk.Goals as goal

pub loop-i-init : goal.loop-i-init
loop-i-init c = search (alike_start, rules)

pub loop-i-preserved : goal.loop-i-preserved
loop-i-preserved c = search (alike_on, rules)

pub returns : goal.returns
returns c = search (alike_ends, rules)
