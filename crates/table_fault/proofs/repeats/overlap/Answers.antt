use Rattle.table_fault.proofs.Tests.{share_none, share_no_other, share_before, share_last}
use borrow.Author.Rules.{rules}
use Rattle.table_fault.proofs.repeats.overlap.Goals as goal

pub returns-then-count-eq0 : goal.returns-then-count-eq0
returns-then-count-eq0 c = search (share_none, rules)

pub returns-then-size-eq0 : goal.returns-then-size-eq0
returns-then-size-eq0 c = search (share_no_other, rules)

pub returns-then-first-count : goal.returns-then-first-count
returns-then-first-count c = search (share_before, rules)

pub returns : goal.returns
returns c = search (share_last, rules)
