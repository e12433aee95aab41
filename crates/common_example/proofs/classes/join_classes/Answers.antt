use Rattle.common_example.proofs.loops.classes.ClassLoop.{joining_start, joining_on, joining_ends}
use borrow.Author.Rules.{rules}
use Rattle.common_example.proofs.classes.join_classes.Goals as goal

pub loop-i-init : goal.loop-i-init
loop-i-init c = search (joining_start, rules)

pub loop-i-preserved : goal.loop-i-preserved
loop-i-preserved c = search (joining_on, rules)

pub returns : goal.returns
returns c = search (joining_ends, rules)
