use Rattle.table_fault.proofs.Tests.{kind_low, kind_high}
use borrow.Author.Rules.{rules}
use Rattle.table_fault.proofs.node.kind_listed.Goals as goal

pub returns-then-kind-lt1 : goal.returns-then-kind-lt1
returns-then-kind-lt1 c = search (kind_low, rules)

pub returns : goal.returns
returns c = search (kind_high, rules)
