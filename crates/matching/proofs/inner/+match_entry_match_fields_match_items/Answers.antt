use mathlib.Core.Path.{refl}
use Rattle.matching.proofs.Entries.{ask_bind, bound, ignored, ask_compare, compared, ask_literal, literal_compared, some_rest, ask_items, ask_fields, parts_fall, entry_falls}
use Rattle.matching.proofs.Parts.{not_array, uneven_items, taking_start, taking_link, taking_from_fits, taking_asks, taking_fails, taking_on, taking_ends, not_object, ask_key_sets, other_keys, fields_start, fields_object, fields_link, fields_index_fits, fields_child, fields_key_word, fields_some, fields_asks, fields_fail, fields_on, fields_end}
use borrow.Author.Rules.{rules}
use Rattle.matching.proofs.inner.+match_entry_match_fields_match_items.Goals as goal

pub match_entry-bind_name-requires : goal.match_entry-bind_name-requires
match_entry-bind_name-requires t c = ask_bind c.requires c.if-kind-eq-BIND.true

pub match_entry-returns-then-kind-eq-BIND : goal.match_entry-returns-then-kind-eq-BIND
match_entry-returns-then-kind-eq-BIND t c = search (bound, rules)

pub match_entry-returns-then-kind-eq-IGNORE : goal.match_entry-returns-then-kind-eq-IGNORE
match_entry-returns-then-kind-eq-IGNORE t c = search (ignored, rules)

pub match_entry-equals_name-requires : goal.match_entry-equals_name-requires
match_entry-equals_name-requires t c = search (ask_compare, rules)

pub match_entry-returns-then-kind-eq-COMPARE_EXPRESSION : goal.match_entry-returns-then-kind-eq-COMPARE_EXPRESSION
match_entry-returns-then-kind-eq-COMPARE_EXPRESSION t c = search (compared, rules)

pub match_entry-same_value-requires : goal.match_entry-same_value-requires
match_entry-same_value-requires t c = search (ask_literal, rules)

pub match_entry-returns-then-kind-eq-COMPARE_LITERAL : goal.match_entry-returns-then-kind-eq-COMPARE_LITERAL
match_entry-returns-then-kind-eq-COMPARE_LITERAL t c = search (literal_compared, rules)

pub match_entry-overflow_sub-rest : goal.match_entry-overflow_sub-rest
match_entry-overflow_sub-rest t c = search (some_rest, rules)

pub match_entry-match_items-requires : goal.match_entry-match_items-requires
match_entry-match_items-requires t c = (search (parts_fall, rules), search (ask_items, rules))

pub match_entry-overflow_sub-rest-2 : goal.match_entry-overflow_sub-rest-2
match_entry-overflow_sub-rest-2 t c = search (some_rest, rules)

pub match_entry-match_fields-requires : goal.match_entry-match_fields-requires
match_entry-match_fields-requires t c = (search (parts_fall, rules), search (ask_fields, rules))

pub match_fields-returns-then-kind_of-ne-OBJECT : goal.match_fields-returns-then-kind_of-ne-OBJECT
match_fields-returns-then-kind_of-ne-OBJECT t c = search (not_object, rules)

pub match_fields-same_key_sets-requires : goal.match_fields-same_key_sets-requires
match_fields-same_key_sets-requires t c = search (ask_key_sets, rules)

pub match_fields-returns-then-not-same_key_sets : goal.match_fields-returns-then-not-same_key_sets
match_fields-returns-then-not-same_key_sets t c = search (other_keys, rules)

pub match_fields-loop-i-init : goal.match_fields-loop-i-init
match_fields-loop-i-init t c = fields_start c.requires c.kind_of.ensures c.if-kind_of-ne-OBJECT.false c.same_key_sets.ensures c.if-not-same_key_sets.false-raw refl

pub match_fields-overflow_cast-i : goal.match_fields-overflow_cast-i
match_fields-overflow_cast-i t c = fields_index_fits c.loop-i.invariant c.loop-i-test.true

pub match_fields-bounds-plan-start : goal.match_fields-bounds-plan-start
match_fields-bounds-plan-start t c = search (fields_link, rules)

pub match_fields-bounds-plan-field : goal.match_fields-bounds-plan-field
match_fields-bounds-plan-field t c = fields_key_word c.loop-i.invariant c.loop-i-test.true refl

pub match_fields-overflow_mul-key : goal.match_fields-overflow_mul-key
match_fields-overflow_mul-key t c = search (fields_child, rules)

pub match_fields-overflow_add-key : goal.match_fields-overflow_add-key
match_fields-overflow_add-key t c = search (fields_child, rules)

pub match_fields-value_under-requires : goal.match_fields-value_under-requires
match_fields-value_under-requires t c = search (fields_object, rules)

pub match_fields-unwrap-part-requires : goal.match_fields-unwrap-part-requires
match_fields-unwrap-part-requires t c = fields_some c.loop-i.invariant c.loop-i-test.true refl c.value_under.ensures

pub match_fields-match_entry-requires : goal.match_fields-match_entry-requires
match_fields-match_entry-requires t c = (entry_falls _ _ c.decreases, fields_asks c.loop-i.invariant c.loop-i-test.true refl c.value_under.ensures c.unwrap-part.ensures)

pub match_fields-returns-then-not-match_entry : goal.match_fields-returns-then-not-match_entry
match_fields-returns-then-not-match_entry t c = fields_fail c.loop-i.invariant c.loop-i-test.true refl c.value_under.ensures c.unwrap-part.ensures c.match_entry.ensures c.if-not-match_entry.true-raw

pub match_fields-loop-i-preserved : goal.match_fields-loop-i-preserved
match_fields-loop-i-preserved t c = fields_on c.loop-i.invariant c.loop-i-test.true refl c.value_under.ensures c.unwrap-part.ensures c.match_entry.ensures c.if-not-match_entry.false-raw

pub match_fields-returns : goal.match_fields-returns
match_fields-returns t c = search (fields_end, rules)

pub match_items-returns-then-kind_of-ne-ARRAY : goal.match_items-returns-then-kind_of-ne-ARRAY
match_items-returns-then-kind_of-ne-ARRAY t c = search (not_array, rules)

pub match_items-returns-then-count_of-count : goal.match_items-returns-then-count_of-count
match_items-returns-then-count_of-count t c = search (uneven_items, rules)

pub match_items-loop-i-init : goal.match_items-loop-i-init
match_items-loop-i-init t c = taking_start c.requires c.kind_of.ensures c.if-kind_of-ne-ARRAY.false c.count_of.ensures c.if-count_of-count.false refl c.first_of-from.ensures

pub match_items-bounds-plan-start : goal.match_items-bounds-plan-start
match_items-bounds-plan-start t c = search (taking_link, rules)

pub match_items-overflow_add-from : goal.match_items-overflow_add-from
match_items-overflow_add-from t c = search (taking_from_fits, rules)

pub match_items-match_entry-requires : goal.match_items-match_entry-requires
match_items-match_entry-requires t c = (entry_falls _ _ c.decreases, taking_asks c.loop-i.invariant c.loop-i-test.true refl c.child_at-part.ensures)

pub match_items-returns-then-not-match_entry : goal.match_items-returns-then-not-match_entry
match_items-returns-then-not-match_entry t c = taking_fails c.loop-i.invariant c.loop-i-test.true refl c.child_at-part.ensures c.match_entry.ensures c.if-not-match_entry.true-raw

pub match_items-loop-i-preserved : goal.match_items-loop-i-preserved
match_items-loop-i-preserved t c = taking_on c.loop-i.invariant c.loop-i-test.true refl c.child_at-part.ensures c.match_entry.ensures c.if-not-match_entry.false-raw

pub match_items-returns : goal.match_items-returns
match_items-returns t c = search (taking_ends, rules)
