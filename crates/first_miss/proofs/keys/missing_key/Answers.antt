use Rattle.first_miss.proofs.nodes.KeyLaws.{leasting_start, leasting_twice, leasting_place, leasting_ask, leasting_on, leasting_ends}
use borrow.Author.Rules.{rules}
use Rattle.first_miss.proofs.keys.missing_key.Goals as goal

pub loop-left-init : goal.loop-left-init
loop-left-init c = search (leasting_start, rules)

pub overflow_mul-left : goal.overflow_mul-left
overflow_mul-left c = search (leasting_twice, rules)

pub overflow_add-first : goal.overflow_add-first
overflow_add-first c = search (leasting_place, rules)

pub lesser_missing-least-requires : goal.lesser_missing-least-requires
lesser_missing-least-requires c = search (leasting_ask, rules)

pub loop-left-preserved : goal.loop-left-preserved
loop-left-preserved c = search (leasting_on, rules)

pub returns : goal.returns
returns c = search (leasting_ends, rules)
