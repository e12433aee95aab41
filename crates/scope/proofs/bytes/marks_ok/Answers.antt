use Rattle.scope.specs.Bytes.{marks_ok}
use Rattle.scope.proofs.Small.{small_start, small_on, small_ends}
use borrow.Author.Rules.{rules}
use Rattle.scope.proofs.bytes.marks_ok.Goals as goal

pub loop-mark-init : goal.loop-mark-init
loop-mark-init c = search (small_start, rules)

pub loop-mark-preserved : goal.loop-mark-preserved
loop-mark-preserved c = search (small_on, rules)

pub returns : goal.returns
unfolding marks_ok
returns c = search (small_ends, rules)
