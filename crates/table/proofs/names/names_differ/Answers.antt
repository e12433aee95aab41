use Rattle.table.proofs.tests.NameOrder.{naming_start, naming_fails, naming_on}
use Rattle.table.proofs.tests.Clauses.{names_end}
use borrow.Author.Rules.{rules}
use Rattle.table.proofs.names.names_differ.Goals as goal

pub loop-i-init : goal.loop-i-init
loop-i-init c = search (naming_start, rules)

pub returns-in_default : goal.returns-in_default
returns-in_default c = search (naming_fails, rules)

pub loop-i-preserved : goal.loop-i-preserved
loop-i-preserved c = search (naming_on, rules)

pub returns : goal.returns
returns c = search (names_end, rules)
