use Rattle.planner.proofs.Left.{some_left, none_left, one_less, two_on}
use Rattle.assignment.proofs.keys.KeyLoops.{missing_start, missing_fits, missing_ask, missing_found, missing_on, missing_ends}
use borrow.Author.Rules.{rules}
use Rattle.assignment.proofs.keys.first_missing.Goals as goal

pub loop-i-init : goal.loop-i-init
loop-i-init c = search (missing_start, rules)

pub find_value-requires : goal.find_value-requires
find_value-requires c = search (missing_ask, some_left, rules)

pub returns-then-find_value-eq0 : goal.returns-then-find_value-eq0
returns-then-find_value-eq0 c = search (missing_found, some_left, rules)

pub overflow_mul-i : goal.overflow_mul-i
overflow_mul-i c = search (missing_fits, some_left, rules)

pub overflow_add-from : goal.overflow_add-from
overflow_add-from c = search (missing_fits, some_left, rules)

pub loop-i-preserved : goal.loop-i-preserved
loop-i-preserved c = search (missing_on, some_left, one_less, two_on, rules)

pub returns : goal.returns
returns c = search (missing_ends, none_left, rules)
