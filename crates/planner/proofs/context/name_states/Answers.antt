use Rattle.planner.proofs.laws.States.{states_flags}
use borrow.Author.Rules.{rules}
use Rattle.planner.proofs.context.name_states.Goals as goal

pub returns : goal.returns
returns c = search (states_flags, rules)
