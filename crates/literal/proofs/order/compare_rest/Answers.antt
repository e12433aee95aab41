use Rattle.literal.proofs.Chunks.{byte_on, byte_differs, bytes_ended}
use borrow.Author.Rules.{rules}
use Rattle.literal.proofs.order.compare_rest.Goals as goal

pub returns-then-a-i : goal.returns-then-a-i
returns-then-a-i c = search (byte_differs, rules)

pub loop-i-preserved : goal.loop-i-preserved
loop-i-preserved c = search (byte_on, rules)

pub returns : goal.returns
returns c = search (bytes_ended, rules)
