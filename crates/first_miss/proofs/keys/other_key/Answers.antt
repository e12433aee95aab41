use Rattle.first_miss.proofs.nodes.KeyLaws.{seeking_start, seeking_twice, seeking_place, seeking_object, seeking_found, seeking_on, seeking_ends}
use borrow.Author.Rules.{rules}
use Rattle.first_miss.proofs.keys.other_key.Goals as goal

pub loop-i-init : goal.loop-i-init
loop-i-init c = search (seeking_start, rules)

pub overflow_mul-i : goal.overflow_mul-i
overflow_mul-i c = search (seeking_twice, rules)

pub overflow_add-first : goal.overflow_add-first
overflow_add-first c = search (seeking_place, rules)

pub value_under-requires : goal.value_under-requires
value_under-requires c = search (seeking_object, rules)

pub returns-then-is_none : goal.returns-then-is_none
returns-then-is_none c = search (seeking_found, rules)

pub loop-i-preserved : goal.loop-i-preserved
loop-i-preserved c = search (seeking_on, rules)

pub returns : goal.returns
returns c = search (seeking_ends, rules)
