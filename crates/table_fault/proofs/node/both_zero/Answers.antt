use Rattle.table_fault.proofs.Tests.{both_first, both_not}
use borrow.Author.Rules.{rules}
use Rattle.table_fault.proofs.node.both_zero.Goals as goal

pub returns-then-first-eq0 : goal.returns-then-first-eq0
returns-then-first-eq0 c = search (both_first, rules)

pub returns : goal.returns
returns c = search (both_not, rules)
