use Rattle.common_example.proofs.loops.graph.GraphLoops.{kind_literal, kind_array, kind_object, kind_none}
use borrow.Author.Rules.{rules}
use Rattle.common_example.proofs.graph.words.head_kind.Goals as goal

pub returns-then-kind-le-LAST_LITERAL : goal.returns-then-kind-le-LAST_LITERAL
returns-then-kind-le-LAST_LITERAL c = search (kind_literal, rules)

pub returns-then-kind-eq-ARRAY : goal.returns-then-kind-eq-ARRAY
returns-then-kind-eq-ARRAY c = search (kind_array, rules)

pub returns-then-kind-eq-OBJECT : goal.returns-then-kind-eq-OBJECT
returns-then-kind-eq-OBJECT c = search (kind_object, rules)

pub returns : goal.returns
returns c = search (kind_none, rules)
