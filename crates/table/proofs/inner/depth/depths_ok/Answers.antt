use Rattle.table.proofs.trees.Deepest.{deep_start, deep_on, deep_fails, deep_ends, ask_children}
use borrow.Author.Rules.{rules}
use Rattle.table.proofs.inner.depth.depths_ok.Goals as goal

pub loop-n-init : goal.loop-n-init
loop-n-init c = search (deep_start, rules)

pub deepest_of-deep-requires : goal.deepest_of-deep-requires
deepest_of-deep-requires c = search (ask_children, rules)

pub returns-then-deep-gt31 : goal.returns-then-deep-gt31
returns-then-deep-gt31 c = search (deep_fails, rules)

pub loop-n-preserved : goal.loop-n-preserved
loop-n-preserved c = search (deep_on, rules)

pub returns : goal.returns
returns c = search (deep_ends, rules)
