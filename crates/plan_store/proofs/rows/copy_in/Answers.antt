use Rattle.plan_store.proofs.rows.Copies.{copying_start, copying_on, copying_ends}
use borrow.Author.Rules.{rules}
use Rattle.plan_store.proofs.rows.copy_in.Goals as goal

pub loop-i-init : goal.loop-i-init
loop-i-init c = search (copying_start, rules)

pub loop-i-preserved : goal.loop-i-preserved
loop-i-preserved c = search (copying_on, rules)

pub returns : goal.returns
returns c = search (copying_ends, rules)
