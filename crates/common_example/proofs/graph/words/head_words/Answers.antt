use Rattle.common_example.proofs.loops.graph.GraphLoops.{heads_start, heads_asks, heads_node, heads_on, heads_end}
use borrow.Author.Rules.{rules}
use Rattle.common_example.proofs.graph.words.head_words.Goals as goal

pub loop-i-init : goal.loop-i-init
loop-i-init c = search (heads_start, rules)

pub head_part-requires : goal.head_part-requires
head_part-requires c = (search (heads_asks, rules), search (heads_node, rules))

pub loop-i-preserved : goal.loop-i-preserved
loop-i-preserved c = search (heads_on, rules)

pub returns : goal.returns
returns c = search (heads_end, rules)
