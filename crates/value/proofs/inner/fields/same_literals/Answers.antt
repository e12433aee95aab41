use Rattle.value.proofs.Under.{literals_equal_lem, literals_differ}
use borrow.Author.Rules.{rules}
use Rattle.value.proofs.inner.fields.same_literals.Goals as goal

pub returns-in-Equal : goal.returns-in-Equal
returns-in-Equal c = search (literals_equal_lem, rules)

pub returns-in_default : goal.returns-in_default
returns-in_default c = search (literals_differ, rules)
