use Rattle.literal.proofs.Keys.{number_outside, number_held, number_missing}
use borrow.Author.Rules.{rules}
use Rattle.literal.proofs.key.number_key.Goals as goal

pub returns-then-numbers-place : goal.returns-then-numbers-place
returns-then-numbers-place c = search (number_outside, rules)

pub returns-then-is_number : goal.returns-then-is_number
returns-then-is_number c = search (number_held, rules)

pub returns : goal.returns
returns c = search (number_missing, rules)
