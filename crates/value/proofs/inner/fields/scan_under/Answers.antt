use Rattle.planner.proofs.Left.{some_left, none_left, one_less, two_on}
use Rattle.value.proofs.Under.{seeking_start, seeking_value_fits, seeking_fits, seeking_found, seeking_on, seeking_ends}
use borrow.Author.Rules.{rules}
use Rattle.value.proofs.inner.fields.scan_under.Goals as goal

pub loop-i-init : goal.loop-i-init
loop-i-init c = search (seeking_start, rules)

pub overflow_add-place-then-same_literals : goal.overflow_add-place-then-same_literals
overflow_add-place-then-same_literals c = search (seeking_value_fits, some_left, rules)

pub returns-then-same_literals : goal.returns-then-same_literals
returns-then-same_literals c = search (seeking_found, some_left, rules)

pub overflow_add-place : goal.overflow_add-place
overflow_add-place c = search (seeking_fits, some_left, rules)

pub loop-i-preserved : goal.loop-i-preserved
loop-i-preserved c = search (seeking_on, some_left, one_less, two_on, rules)

pub returns : goal.returns
returns c = search (seeking_ends, none_left, rules)
