use Rattle.columns.proofs.write.Writing.{writing_start, writing_on, writing_ends}
use borrow.Author.Rules.{rules}
use Rattle.columns.proofs.write.write_rest.Goals as goal

pub loop-left-init : goal.loop-left-init
loop-left-init c = search (writing_start, rules)

pub loop-left-preserved : goal.loop-left-preserved
loop-left-preserved c = search (writing_on, rules)

pub returns : goal.returns
returns c = search (writing_ends, rules)
