use Rattle.body.proofs.SideCases.{cond_is, cond_other}
use borrow.Author.Rules.{rules}
use Rattle.body.proofs.sides.wildcard_sides.Goals as goal

pub returns-then-side-eq1 : goal.returns-then-side-eq1
returns-then-side-eq1 c = search (cond_is, rules)

pub returns-then-side-eq2 : goal.returns-then-side-eq2
returns-then-side-eq2 c = search (cond_is, cond_other, rules)

pub returns : goal.returns
returns c = search (cond_other, rules)
