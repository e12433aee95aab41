use Rattle.body.proofs.SideCases.{cond_is, cond_other}
use borrow.Author.Rules.{rules}
use Rattle.body.proofs.ready.pair_node.Goals as goal

pub returns-then-kind-eq-PAIR : goal.returns-then-kind-eq-PAIR
returns-then-kind-eq-PAIR c = search (cond_is, rules)

pub returns : goal.returns
returns c = search (cond_other, rules)
