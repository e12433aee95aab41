use Rattle.c_calls.proofs.Called.{plan_fits, plan_refused, plan_done}
use borrow.Author.Rules.{rules}
use Rattle.c_calls.proofs.planning.teluddru_plan.Goals as goal

pub returns-in-Err : goal.returns-in-Err
returns-in-Err c = search (plan_refused, rules)

pub tell-requires : goal.tell-requires
tell-requires c = search (plan_fits, rules)

pub returns : goal.returns
returns c = search (plan_done, rules)
