use Rattle.run.proofs.Valued.{starting, starting_name, starting_small, starting_listed, starting_on, starting_ends}
use borrow.Author.Rules.{rules}
use Rattle.run.proofs.inner.names.start_list.Goals as goal

pub loop-i-init : goal.loop-i-init
loop-i-init c = search (starting, rules)

pub overflow_cast-i : goal.overflow_cast-i
overflow_cast-i c = search (starting_small, rules)

pub bounds-values-i : goal.bounds-values-i
bounds-values-i c = search (starting_listed, rules)

pub start_value-requires : goal.start_value-requires
start_value-requires c = search (starting_name, rules)

pub bounds-list-i : goal.bounds-list-i
bounds-list-i c = search (starting_small, rules)

pub loop-i-preserved : goal.loop-i-preserved
loop-i-preserved c = search (starting_on, rules)

pub returns : goal.returns
returns c = search (starting_ends, rules)
