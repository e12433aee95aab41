use Rattle.table_fault.proofs.Earlier.{differing_start, differing_on, differing_fails, differing_ends}
use borrow.Author.Rules.{rules}
use Rattle.table_fault.proofs.repeats.is_new_name.Goals as goal

pub loop-other-init : goal.loop-other-init
loop-other-init c = search (differing_start, rules)

pub returns-then-same_bytes : goal.returns-then-same_bytes
returns-then-same_bytes c = search (differing_fails, rules)

pub loop-other-preserved : goal.loop-other-preserved
loop-other-preserved c = search (differing_on, rules)

pub returns : goal.returns
returns c = search (differing_ends, rules)
