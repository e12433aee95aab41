use Rattle.checks.proofs.TextLoops.{ordered_start, ordered_double, ordered_place, ordered_key_lem, ordered_on, ordered_ends}
use borrow.Author.Rules.{rules}
use Rattle.checks.proofs.texts.sort_ordered.Goals as goal

pub loop-q-init : goal.loop-q-init
loop-q-init c = search (ordered_start, rules)

pub overflow_mul-field_at : goal.overflow_mul-field_at
overflow_mul-field_at c = search (ordered_double, rules)

pub overflow_add-first : goal.overflow_add-first
overflow_add-first c = search (ordered_place, rules)

pub add_key-size-requires : goal.add_key-size-requires
add_key-size-requires c = search (ordered_key_lem, rules)

pub loop-q-preserved : goal.loop-q-preserved
loop-q-preserved c = search (ordered_on, rules)

pub returns : goal.returns
returns c = search (ordered_ends, rules)
