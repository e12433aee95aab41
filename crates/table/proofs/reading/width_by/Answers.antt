use Rattle.table.proofs.trees.Words.{wide_object, wide_array, wide_set, wide_leaf}
use borrow.Author.Rules.{rules}
use Rattle.table.proofs.reading.width_by.Goals as goal

pub returns-then-kind-eq-OBJECT : goal.returns-then-kind-eq-OBJECT
returns-then-kind-eq-OBJECT c = (search (wide_object, rules), search rules)

pub returns-then-kind-eq-ARRAY : goal.returns-then-kind-eq-ARRAY
returns-then-kind-eq-ARRAY c = (search (wide_array, rules), search rules)

pub returns-then-kind-eq-SET : goal.returns-then-kind-eq-SET
returns-then-kind-eq-SET c = (search (wide_set, rules), search rules)

pub returns : goal.returns
returns c = (search (wide_leaf, rules), search rules)
