use Rattle.name_table.proofs.Cases.{seeking_start, seeking_found, seeking_on, seeking_ends}
use native.Mathlib.Omega.{arith}
use borrow.Author.Rules.{rules}
use Rattle.name_table.proofs.number_of.Goals as goal

pub loop-name-init : goal.loop-name-init
loop-name-init c = search (seeking_start, rules)

pub returns-then-same_bytes : goal.returns-then-same_bytes
returns-then-same_bytes c = search (seeking_found, rules)

pub loop-name-preserved : goal.loop-name-preserved
loop-name-preserved c = search (seeking_on, rules)

pub returns : goal.returns
returns c = search (seeking_ends, rules)

pub returns-else-same_bytes : goal.returns-else-same_bytes
returns-else-same_bytes c = seeking_ends (seeking_on c.loop-name.invariant c.loop-name-test.true c.name_bytes.ensures c.same_bytes.ensures c.if-same_bytes.false) (omega arith)
