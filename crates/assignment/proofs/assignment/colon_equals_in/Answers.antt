use Rattle.assignment.proofs.laws.Sides.{ask_first, ask_colon, colon_planned}
use borrow.Author.Rules.{rules}
use Rattle.assignment.proofs.assignment.colon_equals_in.Goals as goal

pub plan_pattern-planned-requires : goal.plan_pattern-planned-requires
plan_pattern-planned-requires c = search (ask_first, rules)

pub colon_equals_from-requires : goal.colon_equals_from-requires
colon_equals_from-requires c = search (ask_colon, c.requires.0, c.requires.1, c.plan_pattern-planned.ensures, rules)

pub returns : goal.returns
returns c = (search (colon_planned, rules), search rules)
