use Rattle.value.proofs.Under.{sizes_differ, covering_start, covering_twice, covering_place, covering_object, covering_fails, covering_on, covering_ends}
use borrow.Author.Rules.{rules}
use Rattle.value.proofs.inner.fields.same_key_sets.Goals as goal

pub returns-then-count_of-count : goal.returns-then-count_of-count
returns-then-count_of-count c = search (sizes_differ, rules)

pub loop-i-init : goal.loop-i-init
loop-i-init c = search (covering_start, rules)

pub overflow_mul-i : goal.overflow_mul-i
overflow_mul-i c = search (covering_twice, rules)

pub overflow_add-first : goal.overflow_add-first
overflow_add-first c = search (covering_place, rules)

pub value_under-requires : goal.value_under-requires
value_under-requires c = search (covering_object, rules)

pub returns-then-is_none : goal.returns-then-is_none
returns-then-is_none c = search (covering_fails, rules)

pub loop-i-preserved : goal.loop-i-preserved
loop-i-preserved c = search (covering_on, rules)

pub returns : goal.returns
returns c = search (covering_ends, rules)
