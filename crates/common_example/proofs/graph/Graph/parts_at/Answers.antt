use Rattle.common_example.proofs.loops.graph.PartsTold.{fields_start, told_fields, told_none, told_items}
use borrow.Author.Rules.{rules}
use Rattle.common_example.proofs.graph.Graph.parts_at.Goals as goal

pub returns-then-kind-le-LITERAL : goal.returns-then-kind-le-LITERAL
returns-then-kind-le-LITERAL c = search (told_none, rules)

pub returns-then-kind-eq-ARRAY : goal.returns-then-kind-eq-ARRAY
returns-then-kind-eq-ARRAY c = search (told_items, rules)

pub overflow_add-result : goal.overflow_add-result
overflow_add-result c = search (fields_start, rules)

pub returns : goal.returns
returns c = search (told_fields, rules)
