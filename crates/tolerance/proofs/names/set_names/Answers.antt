use Rattle.tolerance.proofs.nodes.Beginning.{setting_start, setting_small, setting_inside, setting_on, setting_long, setting_ends}
use borrow.Author.Rules.{rules}
use Rattle.tolerance.proofs.names.set_names.Goals as goal

pub loop-i-init : goal.loop-i-init
loop-i-init c = search (setting_start, rules)

pub bounds-values-i : goal.bounds-values-i
bounds-values-i c = search (setting_inside, rules)

pub bounds-list-i : goal.bounds-list-i
bounds-list-i c = search (setting_small, rules)

pub bounds-values-i-in-loop-i : goal.bounds-values-i-in-loop-i
bounds-values-i-in-loop-i c = search (setting_inside, rules)

pub loop-i-preserved : goal.loop-i-preserved
loop-i-preserved c = search (setting_on, rules)

pub shape_of-values : goal.shape_of-values
shape_of-values c = search (setting_long, rules)

pub returns : goal.returns
returns c = search (setting_ends, rules)
