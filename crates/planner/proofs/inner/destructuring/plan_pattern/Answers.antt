use Rattle.planner.proofs.laws.Operations.{ask_plan, pattern_planned_lem, pattern_steps}
use borrow.Author.Rules.{rules}
use Rattle.planner.proofs.inner.destructuring.plan_pattern.Goals as goal

pub create_destructuring_plan_with_tracking-requires : goal.create_destructuring_plan_with_tracking-requires
create_destructuring_plan_with_tracking-requires c = search (ask_plan, rules)

pub returns-clause-planned : goal.returns-clause-planned
returns-clause-planned c = search (pattern_planned_lem, rules)

pub returns-clause-counted : goal.returns-clause-counted
returns-clause-counted c = search (pattern_steps, rules)
