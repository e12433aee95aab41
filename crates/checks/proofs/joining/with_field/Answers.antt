use Rattle.checks.proofs.Joins.{taken_settled, taken_on}
use borrow.Author.Rules.{rules}
use Rattle.checks.proofs.joining.with_field.Goals as goal

pub returns-then-is_settled : goal.returns-then-is_settled
returns-then-is_settled c = search (taken_settled, rules)

pub returns : goal.returns
returns c = search (taken_on, rules)
