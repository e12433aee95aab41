use Rattle.assignment.proofs.preview.Learning.{learning_start, learning_on, learning_ends}
use borrow.Author.Rules.{rules}
use Rattle.assignment.proofs.preview.learn_names.Goals as goal

pub loop-i-init : goal.loop-i-init
loop-i-init c = search (learning_start, rules)

pub loop-i-preserved : goal.loop-i-preserved
loop-i-preserved c = search (learning_on, rules)

pub returns : goal.returns
returns c = search (learning_ends, rules)
