use Rattle.common_example.proofs.loops.graph.GraphLoops.{start_none, start_literal, start_link, link_four, link_side}
use borrow.Author.Rules.{rules}
use Rattle.common_example.proofs.graph.words.head_start.Goals as goal

pub returns-then-kind-eq-NOTHING : goal.returns-then-kind-eq-NOTHING
returns-then-kind-eq-NOTHING c = search (start_none, rules)

pub returns-then-kind-eq-LITERAL : goal.returns-then-kind-eq-LITERAL
returns-then-kind-eq-LITERAL c = search (start_literal, rules)

pub overflow_mul-result : goal.overflow_mul-result
overflow_mul-result c = search (link_four, rules)

pub overflow_add-result : goal.overflow_add-result
overflow_add-result c = search (link_side, rules)

pub returns : goal.returns
returns c = search (start_link, rules)
