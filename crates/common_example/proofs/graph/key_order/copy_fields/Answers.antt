use Rattle.common_example.proofs.loops.graph.KeyOrderLoops.{copying_start, words_fit, copying_place, field_fits, key_fits, word_fits, copying_on, copying_ends}
use borrow.Author.Rules.{rules}
use Rattle.common_example.proofs.graph.key_order.copy_fields.Goals as goal

pub overflow_mul-words : goal.overflow_mul-words
overflow_mul-words c = search (words_fit, rules)

pub loop-j-init : goal.loop-j-init
loop-j-init c = search (copying_start, rules)

pub overflow_mul-field : goal.overflow_mul-field
overflow_mul-field c = search (field_fits, rules)

pub overflow_add-first : goal.overflow_add-first
overflow_add-first c = search (key_fits, rules)

pub overflow_add-first-in-loop-j : goal.overflow_add-first-in-loop-j
overflow_add-first-in-loop-j c = search (word_fits, rules)

pub overflow_add-entries : goal.overflow_add-entries
overflow_add-entries c = search (copying_place, rules)

pub offset_bounds-entries-first : goal.offset_bounds-entries-first
offset_bounds-entries-first c = search (copying_place, rules)

pub bounds-entries-first : goal.bounds-entries-first
bounds-entries-first c = search (copying_place, rules)

pub loop-j-preserved : goal.loop-j-preserved
loop-j-preserved c = search (copying_on, rules)

pub returns : goal.returns
returns c = search (copying_ends, rules)
