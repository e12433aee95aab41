use Rattle.report.proofs.Reporting.{ask_bound, planned_marked}
use borrow.Author.Rules.{rules}
use Rattle.report.proofs.mark_planned.Goals as goal

pub mark_bound-requires : goal.mark_bound-requires
mark_bound-requires c = ask_bound _ c.args.scope c.args.scoping c.args.pattern c.requires c.plan_pattern-planned.ensures.planned

pub returns : goal.returns
returns c = search (planned_marked, rules)
