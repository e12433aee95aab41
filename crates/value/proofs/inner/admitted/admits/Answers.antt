use Rattle.value.proofs.Marking.{admits_literal, admits_name, admits_none, ask_items, ask_fields, admits_array, admits_unmarked, ask_keys, admits_object}
use borrow.Author.Rules.{rules}
use Rattle.value.proofs.inner.admitted.admits.Goals as goal

pub returns-then-kind-le-LAST_LITERAL : goal.returns-then-kind-le-LAST_LITERAL
returns-then-kind-le-LAST_LITERAL c = search (admits_literal, rules)

pub returns-then-kind-eq-NAME : goal.returns-then-kind-eq-NAME
returns-then-kind-eq-NAME c = search (admits_name, rules)

pub items_marked-requires : goal.items_marked-requires
items_marked-requires c = search (ask_items, rules)

pub returns-then-kind-eq-ARRAY : goal.returns-then-kind-eq-ARRAY
returns-then-kind-eq-ARRAY c = search (admits_array, rules)

pub fields_marked-keyed-requires : goal.fields_marked-keyed-requires
fields_marked-keyed-requires c = search (ask_fields, rules)

pub returns-then-not-keyed : goal.returns-then-not-keyed
returns-then-not-keyed c = search (admits_unmarked, rules)

pub keys_differ-requires : goal.keys_differ-requires
keys_differ-requires c = search (ask_keys, rules)

pub returns-then-kind-eq-OBJECT : goal.returns-then-kind-eq-OBJECT
returns-then-kind-eq-OBJECT c = search (admits_object, rules)

pub returns : goal.returns
returns c = search (admits_none, rules)
