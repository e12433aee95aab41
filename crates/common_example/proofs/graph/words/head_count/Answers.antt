use Rattle.common_example.proofs.loops.graph.GraphLoops.{count_none, count_links}
use borrow.Author.Rules.{rules}
use Rattle.common_example.proofs.graph.words.head_count.Goals as goal

pub returns-then-kind-le-LITERAL : goal.returns-then-kind-le-LITERAL
returns-then-kind-le-LITERAL c = search (count_none, rules)

pub returns : goal.returns
returns c = search (count_links, rules)
