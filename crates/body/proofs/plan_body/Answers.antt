use Rattle.body.proofs.BodySteps.{is_body_by, no_body}
use borrow.Author.Rules.{rules}
use Rattle.body.proofs.plan_body.Goals as goal

pub plan_lines-requires : goal.plan_lines-requires
plan_lines-requires c = search (is_body_by, rules)

pub returns : goal.returns
returns c = search (no_body, rules)
