use Rattle.body.proofs.SideCases.{cond_is, cond_other}
use borrow.Author.Rules.{rules}
use Rattle.body.proofs.sides.equals_sides.Goals as goal

pub returns-then-form-eq2 : goal.returns-then-form-eq2
returns-then-form-eq2 c = search (cond_is, rules)

pub returns-then-form-eq3 : goal.returns-then-form-eq3
returns-then-form-eq3 c = search (cond_is, cond_other, rules)

pub returns-then-form-eq4 : goal.returns-then-form-eq4
returns-then-form-eq4 c = search (cond_is, cond_other, rules)

pub returns-then-form-eq5 : goal.returns-then-form-eq5
returns-then-form-eq5 c = search (cond_is, cond_other, rules)

pub returns : goal.returns
returns c = search (cond_other, rules)
