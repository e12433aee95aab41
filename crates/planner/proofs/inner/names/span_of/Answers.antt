use Rattle.planner.proofs.laws.Names.{span_items, span_members, span_set, span_keyed, span_values, span_leaf}
use borrow.Author.Rules.{rules}
use Rattle.planner.proofs.inner.names.span_of.Goals as goal

pub returns-then-kind-eq-ARRAY : goal.returns-then-kind-eq-ARRAY
returns-then-kind-eq-ARRAY c = search (span_items, rules)

pub returns-then-sets : goal.returns-then-sets
returns-then-sets c = search (span_members, rules)

pub returns-then-kind-eq-SET : goal.returns-then-kind-eq-SET
returns-then-kind-eq-SET c = search (span_set, rules)

pub returns-then-keys : goal.returns-then-keys
returns-then-keys c = search (span_keyed, rules)

pub returns-then-kind-eq-OBJECT : goal.returns-then-kind-eq-OBJECT
returns-then-kind-eq-OBJECT c = search (span_values, rules)

pub returns : goal.returns
returns c = search (span_leaf, rules)
