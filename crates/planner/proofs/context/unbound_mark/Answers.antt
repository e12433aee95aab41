use Rattle.planner.proofs.laws.States.{mark_reply}
use borrow.Author.Rules.{rules}
use Rattle.planner.proofs.context.unbound_mark.Goals as goal

pub returns : goal.returns
returns c = search (mark_reply, rules)
