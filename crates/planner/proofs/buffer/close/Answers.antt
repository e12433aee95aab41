use Rattle.planner.proofs.buffer.Filling.{closed_small, closed_fits}
use borrow.Author.Rules.{rules}
use Rattle.planner.proofs.buffer.close.Goals as goal

pub returns-then-plan-at : goal.returns-then-plan-at
returns-then-plan-at c = search (closed_small, rules)

pub returns : goal.returns
returns c = search (closed_fits, rules)
