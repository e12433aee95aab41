use Rattle.checks.proofs.Checks.{kinds_differ, kinds_plain, ask_objects, arrays_mismatch, ask_items, arrays_done, items_start, items_pattern_fits, items_value_fits, items_pair, items_below, items_on, items_stop, items_done, objects_empty, objects_unknown, ask_fields, objects_fields, objects_differ, object_falls, items_fall, fields_fall, field_falls, item_falls, child_falls}
use Rattle.checks.proofs.ObjectFields.{fields_start, fields_ask, fields_on, fields_stop, fields_done, field_double, field_place, field_next, ask_partner, passed, ask_slot, field_pair, field_below, one_taken}
use borrow.Author.Rules.{rules}
use Rattle.checks.proofs.inner.+check_field_check_fields_check_items_check_object_check_structure.Goals as goal

pub check_field-overflow_mul-place : goal.check_field-overflow_mul-place
check_field-overflow_mul-place t c = search (field_double, rules)

pub check_field-overflow_add-place : goal.check_field-overflow_add-place
check_field-overflow_add-place t c = search (field_place, rules)

pub check_field-partner_place-met-requires : goal.check_field-partner_place-met-requires
check_field-partner_place-met-requires t c = search (ask_partner, rules)

pub check_field-returns-then-before-met : goal.check_field-returns-then-before-met
check_field-returns-then-before-met t c = search (passed, rules)

pub check_field-pattern_at-other-requires : goal.check_field-pattern_at-other-requires
check_field-pattern_at-other-requires t c = search (ask_slot, rules)

pub check_field-overflow_add-place-2 : goal.check_field-overflow_add-place-2
check_field-overflow_add-place-2 t c = search (field_next, rules)

pub check_field-check_structure-check-requires : goal.check_field-check_structure-check-requires
check_field-check_structure-check-requires t c = (
  child_falls (field_below c.requires c.first_of.ensures c.child_at-key.ensures c.partner_place-met.ensures c.if-before-met.false c.pattern_at-other.ensures c.child_at-child.ensures) c.decreases,
  field_pair c.requires c.first_of.ensures c.child_at-key.ensures c.partner_place-met.ensures c.if-before-met.false c.pattern_at-other.ensures c.child_at-child.ensures,
)

pub check_field-returns : goal.check_field-returns
check_field-returns t c = (one_taken c.requires c.first_of.ensures c.child_at-key.ensures c.partner_place-met.ensures c.if-before-met.false c.pattern_at-other.ensures c.child_at-child.ensures c.check_structure-check.ensures.0 c.with_field.ensures, (tt, tt))

pub check_fields-loop-i-init : goal.check_fields-loop-i-init
check_fields-loop-i-init t c = fields_start c.requires _ c.count_of-count.ensures c.each_paired-paired.ensures.0 c.no_field_yet-so_far.ensures

pub check_fields-check_field-so_far-requires : goal.check_fields-check_field-so_far-requires
check_fields-check_field-so_far-requires t c = (search (field_falls, rules), fields_ask c.loop-i.invariant c.loop-i-test.true)

pub check_fields-returns-then-so_far-eq0 : goal.check_fields-returns-then-so_far-eq0
check_fields-returns-then-so_far-eq0 t c = search (fields_stop, rules)

pub check_fields-loop-i-preserved : goal.check_fields-loop-i-preserved
check_fields-loop-i-preserved t c = search (fields_on, rules)

pub check_fields-returns : goal.check_fields-returns
check_fields-returns t c = search (fields_done, rules)

pub check_items-loop-i-init : goal.check_items-loop-i-init
check_items-loop-i-init t c = search (items_start, rules)

pub check_items-overflow_add-at : goal.check_items-overflow_add-at
check_items-overflow_add-at t c = search (items_pattern_fits, rules)

pub check_items-overflow_add-place : goal.check_items-overflow_add-place
check_items-overflow_add-place t c = search (items_value_fits, rules)

pub check_items-check_structure-check-requires : goal.check_items-check_structure-check-requires
check_items-check_structure-check-requires t c = (search (item_falls, items_below, rules), search (items_pair, rules))

pub check_items-returns-then-is_settled : goal.check_items-returns-then-is_settled
check_items-returns-then-is_settled t c = search (items_stop, rules)

pub check_items-loop-i-preserved : goal.check_items-loop-i-preserved
check_items-loop-i-preserved t c = items_on c.loop-i.invariant c.loop-i-test.true c.child_at-pattern.ensures c.child_at-item.ensures c.check_structure-check.ensures.0 c.join-so_far.ensures c.is_settled.ensures c.if-is_settled.false

pub check_items-returns : goal.check_items-returns
check_items-returns t c = search (items_done, rules)

pub check_object-returns-then-compared-eq0 : goal.check_object-returns-then-compared-eq0
check_object-returns-then-compared-eq0 t c = search (objects_empty, rules)

pub check_object-returns-then-compared-eq0-2 : goal.check_object-returns-then-compared-eq0-2
check_object-returns-then-compared-eq0-2 t c = search (objects_unknown, rules)

pub check_object-returns-then-not-compared : goal.check_object-returns-then-not-compared
check_object-returns-then-not-compared t c = search (objects_differ, rules)

pub check_object-check_fields-requires : goal.check_object-check_fields-requires
check_object-check_fields-requires t c = (search (fields_fall, rules), ask_fields c.requires c.compare_object_keys-compared.ensures.0)

pub check_object-returns : goal.check_object-returns
check_object-returns t c = (objects_fields _ c.requires c.compare_object_keys-compared.ensures.0 c.if-compared-eq0-2.false c.if-not-compared.false c.check_fields.ensures.0, (tt, tt))

pub check_structure-returns-then-kind_of-kind : goal.check_structure-returns-then-kind_of-kind
check_structure-returns-then-kind_of-kind t c = search (kinds_differ, rules)

pub check_structure-returns-then-actual-expected : goal.check_structure-returns-then-actual-expected
check_structure-returns-then-actual-expected t c = search (arrays_mismatch, rules)

pub check_structure-check_items-requires : goal.check_structure-check_items-requires
check_structure-check_items-requires t c = (
  search (items_fall, rules),
  ask_items c.requires c.kind_of-kind.ensures c.kind_of.ensures c.if-kind_of-kind.false c.if-kind-eq-ARRAY.true
      c.count_of-expected.ensures c.count_of-actual.ensures c.if-actual-expected.false c.first_of-at.ensures c.first_of-place.ensures,
)

pub check_structure-returns-then-kind-eq-ARRAY : goal.check_structure-returns-then-kind-eq-ARRAY
check_structure-returns-then-kind-eq-ARRAY t c = search (arrays_done, rules)

pub check_structure-check_object-requires : goal.check_structure-check_object-requires
check_structure-check_object-requires t c = (search (object_falls, rules), search (ask_objects, rules))

pub check_structure-returns-then-kind-eq-OBJECT : goal.check_structure-returns-then-kind-eq-OBJECT
check_structure-returns-then-kind-eq-OBJECT t c = search rules

pub check_structure-returns : goal.check_structure-returns
check_structure-returns t c = search (kinds_plain, rules)
