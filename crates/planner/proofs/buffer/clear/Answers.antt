use Rattle.planner.proofs.buffer.Filling.{all_cleared}
use borrow.Author.Rules.{rules}
use Rattle.planner.proofs.buffer.clear.Goals as goal

pub returns : goal.returns
returns c = search (all_cleared, rules)
