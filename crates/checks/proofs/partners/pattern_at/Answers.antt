use Rattle.checks.proofs.PatternObjects.{slot_double, slot_key_lem, slot_value, slot_node}
use borrow.Author.Rules.{rules}
use Rattle.checks.proofs.partners.pattern_at.Goals as goal

pub overflow_mul-field_at : goal.overflow_mul-field_at
overflow_mul-field_at c = search (slot_double, rules)

pub overflow_add-first : goal.overflow_add-first
overflow_add-first c = search (slot_key_lem, rules)

pub overflow_add-first-2 : goal.overflow_add-first-2
overflow_add-first-2 c = search (slot_value, rules)

pub returns : goal.returns
returns c = search (slot_node, rules)
