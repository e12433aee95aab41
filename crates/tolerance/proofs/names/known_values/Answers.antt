use Rattle.tolerance.proofs.nodes.Beginning.{knowing, knowing_small, knowing_listed, knowing_on, knowing_ends}
use borrow.Author.Rules.{rules}
use Rattle.tolerance.proofs.names.known_values.Goals as goal

pub loop-i-init : goal.loop-i-init
loop-i-init c = search (knowing, rules)

pub bounds-states-i : goal.bounds-states-i
bounds-states-i c = search (knowing_small, rules)

pub bounds-values-i : goal.bounds-values-i
bounds-values-i c = search (knowing_listed, rules)

pub bounds-list-i : goal.bounds-list-i
bounds-list-i c = search (knowing_small, rules)

pub loop-i-preserved : goal.loop-i-preserved
loop-i-preserved c = search (knowing_on, rules)

pub returns : goal.returns
returns c = search (knowing_ends, rules)
