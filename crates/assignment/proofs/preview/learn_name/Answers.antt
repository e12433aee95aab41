use Rattle.assignment.proofs.preview.Learning.{learnt_known, learnt_not, learnt_now}
use borrow.Author.Rules.{rules}
use Rattle.assignment.proofs.preview.learn_name.Goals as goal

pub returns-then-binders-at-ne0 : goal.returns-then-binders-at-ne0
returns-then-binders-at-ne0 c = search (learnt_now, rules)

pub returns-else-binders-at-ne0 : goal.returns-else-binders-at-ne0
returns-else-binders-at-ne0 c = search (learnt_not, rules)

pub returns-else-states-at-eq1 : goal.returns-else-states-at-eq1
returns-else-states-at-eq1 c = search (learnt_known, rules)
