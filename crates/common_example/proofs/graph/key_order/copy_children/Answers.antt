use Rattle.common_example.proofs.loops.graph.GraphLoops.{fill_start, fill_on, fill_ends}
use borrow.Author.Rules.{rules}
use Rattle.common_example.proofs.graph.key_order.copy_children.Goals as goal

pub loop-i-init : goal.loop-i-init
loop-i-init c = search (fill_start, rules)

pub loop-i-preserved : goal.loop-i-preserved
loop-i-preserved c = search (fill_on, rules)

pub returns : goal.returns
returns c = search (fill_ends, rules)
