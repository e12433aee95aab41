use Rattle.tolerance.proofs.tables.Judged.{judge_plan, judge_decide, judge_names, judged_always, judged_else}
use borrow.Author.Rules.{rules}
use Rattle.tolerance.proofs.judge.Goals as goal

pub plan_pattern-planned-requires : goal.plan_pattern-planned-requires
plan_pattern-planned-requires c = search (judge_plan, rules)

pub decide-answer-requires : goal.decide-answer-requires
decide-answer-requires c = search (judge_decide, rules)

pub set_names-requires : goal.set_names-requires
set_names-requires c = judge_names c.requires

pub returns-in-Always : goal.returns-in-Always
returns-in-Always c = judged_always c.requires c.plan_pattern-planned.ensures.planned c.close.ensures c.decide-answer.ensures c.in-Always.is c.set_names.ensures

pub returns : goal.returns
returns c = judged_else c.requires c.plan_pattern-planned.ensures.planned c.close.ensures c.decide-answer.ensures c.in_default.not-Always
