use Rattle.assignment.proofs.laws.Sides.{side_both, side_left, side_right, side_none}
use borrow.Author.Rules.{rules}
use Rattle.assignment.proofs.assignment.wildcard_side.Goals as goal

pub returns-then-at_right : goal.returns-then-at_right
returns-then-at_right c = search (side_both, rules)

pub returns-then-at_left : goal.returns-then-at_left
returns-then-at_left c = search (side_left, rules)

pub returns-then-at_right-2 : goal.returns-then-at_right-2
returns-then-at_right-2 c = search (side_right, rules)

pub returns : goal.returns
returns c = search (side_none, rules)
