use Rattle.table_fault.proofs.Walking.{walking_start, walking_reach, walking_on, walking_broken, walking_ends}
use borrow.Author.Rules.{rules}
use Rattle.table_fault.proofs.table_fault.Goals as goal

pub loop-rule-init : goal.loop-rule-init
loop-rule-init c = search (walking_start, rules)

pub first_broken-requires : goal.first_broken-requires
first_broken-requires c = search (walking_reach c.loop-rule.invariant, rules)

pub returns-in-Some : goal.returns-in-Some
returns-in-Some c = search (walking_broken, rules)

pub loop-rule-preserved : goal.loop-rule-preserved
loop-rule-preserved c = search (walking_on, rules)

pub returns : goal.returns
returns c = search (walking_ends, rules)
