use Rattle.body.proofs.SideCases.{cond_is, cond_other}
use borrow.Author.Rules.{rules}
use Rattle.body.proofs.ready.key_node.Goals as goal

pub returns-then-kind-ne-PAIR : goal.returns-then-kind-ne-PAIR
returns-then-kind-ne-PAIR c = search (cond_other, rules)

pub returns : goal.returns
returns c = search (cond_is, rules)
