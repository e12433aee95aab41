use Rattle.tolerance.proofs.tables.Probed.{probe_done, probe_refused, probe_names, given_here, range_refused, plan_refused, ask_judge, judged_here}
use borrow.Author.Rules.{rules}
use Rattle.tolerance.proofs.run_with_tolerance.Goals as goal

pub unreachable-requires : goal.unreachable-requires
unreachable-requires c = search (probe_done, rules)

pub returns-in_default-asked : goal.returns-in_default-asked
returns-in_default-asked c = probe_refused _ _ _ _ _ _ c.run.ensures _ _ c.in-Err.is c.in_default-asked.not-PlanTooLarge c.clear.ensures c.into.ensures

pub known_values-known-requires : goal.known_values-known-requires
known_values-known-requires c = probe_names _ _ _ _ c.args.value _ c.run.ensures c.in-Err.is c.in-PlanTooLarge.is

pub ranges_given-requires : goal.ranges_given-requires
ranges_given-requires c = given_here _ _ _ _ _ _ c.run.ensures c.in-Err.is c.in-PlanTooLarge.is c.known_values-known.ensures

pub returns-then-not-ranges_given : goal.returns-then-not-ranges_given
returns-then-not-ranges_given c = search (range_refused, rules)

pub returns-then-plan-needed : goal.returns-then-plan-needed
returns-then-plan-needed c = plan_refused _ _ _ _ _ _ c.run.ensures c.in-Err.is c.in-PlanTooLarge.is c.known_values-known.ensures _ _ c.ranges_given.ensures c.if-not-ranges_given.false-raw c.if-plan-needed.true c.clear-then-plan-needed.ensures c.into-then-plan-needed.ensures

pub judge-requires : goal.judge-requires
judge-requires c = ask_judge _ _ _ _ _ _ c.run.ensures c.in-Err.is c.in-PlanTooLarge.is c.known_values-known.ensures _ _ c.ranges_given.ensures c.if-not-ranges_given.false-raw c.if-plan-needed.false

pub returns : goal.returns
returns c = judged_here _ _ _ _ _ _ c.run.ensures c.in-Err.is c.in-PlanTooLarge.is c.known_values-known.ensures _ _ c.ranges_given.ensures c.if-not-ranges_given.false-raw c.if-plan-needed.false c.judge.ensures
