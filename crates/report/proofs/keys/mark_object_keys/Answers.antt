use Rattle.planner.proofs.Left.{some_left, none_left, one_less, two_on}
use Rattle.report.proofs.KeyNames.{marking_start, marking_key, marking_on, marking_fits, marking_ends}
use borrow.Author.Rules.{rules}
use Rattle.report.proofs.keys.mark_object_keys.Goals as goal

pub loop-i-init : goal.loop-i-init
loop-i-init c = search (marking_start, rules)

pub mark_key-requires : goal.mark_key-requires
mark_key-requires c = search (marking_key, some_left, rules)

pub overflow_mul-i : goal.overflow_mul-i
overflow_mul-i c = search (marking_fits, some_left, rules)

pub overflow_add-first : goal.overflow_add-first
overflow_add-first c = search (marking_fits, some_left, rules)

pub loop-i-preserved : goal.loop-i-preserved
loop-i-preserved c = search (marking_on, some_left, one_less, two_on, rules)

pub returns : goal.returns
returns c = search (marking_ends, none_left, rules)
