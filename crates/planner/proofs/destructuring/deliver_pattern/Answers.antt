use Rattle.planner.proofs.laws.Operations.{ask_pattern}
use Rattle.planner.proofs.laws.Validating.{unvalidated_closed, plan_refused, validated_closed}
use borrow.Author.Rules.{rules}
use Rattle.planner.proofs.destructuring.deliver_pattern.Goals as goal

pub plan_pattern-planned-requires : goal.plan_pattern-planned-requires
plan_pattern-planned-requires c = search (ask_pattern, rules)

pub returns-then-not-validate : goal.returns-then-not-validate
returns-then-not-validate c = search (unvalidated_closed, rules)

pub returns-then-name-ne0 : goal.returns-then-name-ne0
returns-then-name-ne0 c = search (plan_refused, rules)

pub returns : goal.returns
returns c = search (validated_closed, rules)
