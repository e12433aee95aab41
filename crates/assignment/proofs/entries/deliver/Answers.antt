use Rattle.planner.proofs.buffer.Copies.{wrote_closed, wrote_first}
use borrow.Author.Rules.{rules}
use Rattle.assignment.proofs.entries.deliver.Goals as goal

pub returns : goal.returns
returns c = search (wrote_closed, wrote_first, rules)
