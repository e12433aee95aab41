use Rattle.run.proofs.Running.{ask_plan, ask_values, too_large, carried}
use Rattle.planner.proofs.buffer.Copies.{wrote_first}
use borrow.Author.Rules.{rules}
use Rattle.run.proofs.carry_out.Goals as goal

pub plan_pattern-planned-requires : goal.plan_pattern-planned-requires
plan_pattern-planned-requires c = search (ask_plan, rules)

pub returns-then-plan-count : goal.returns-then-plan-count
returns-then-plan-count c = too_large _ _ _ _ _ c.requires c.plan_pattern-planned.ensures.planned (wrote_first _ _ _ c.copy_entries.ensures) c.close.ensures c.if-plan-count.true

pub match_values-requires : goal.match_values-requires
match_values-requires c = ask_values _ _ _ _ _ c.requires c.plan_pattern-planned.ensures.planned

pub returns : goal.returns
returns c = carried _ _ _ _ _ c.requires c.plan_pattern-planned.ensures.planned (wrote_first _ _ _ c.copy_entries.ensures) c.close.ensures c.if-plan-count.false c.match_values.ensures
