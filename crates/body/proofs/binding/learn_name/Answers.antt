use Rattle.body.proofs.Learning.{learned_none, learned_past, learned_now, learned_same}
use borrow.Author.Rules.{rules}
use Rattle.body.proofs.binding.learn_name.Goals as goal

pub returns-then-name-lt1 : goal.returns-then-name-lt1
returns-then-name-lt1 c = search (learned_none, rules)

pub returns-then-name-gt128 : goal.returns-then-name-gt128
returns-then-name-gt128 c = search (learned_past, rules)

pub returns-then-states-name-eq1 : goal.returns-then-states-name-eq1
returns-then-states-name-eq1 c = search (learned_now, rules)

pub returns-else-states-name-eq1 : goal.returns-else-states-name-eq1
returns-else-states-name-eq1 c = search (learned_same, rules)
