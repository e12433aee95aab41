use Rattle.planner.proofs.laws.States.{state_none, state_underscore, state_reserved, state_ordinary}
use borrow.Author.Rules.{rules}
use Rattle.planner.proofs.context.name_state.Goals as goal

pub returns-then-names-name : goal.returns-then-names-name
returns-then-names-name c = search (state_none, rules)

pub returns-in-Underscore : goal.returns-in-Underscore
returns-in-Underscore c = search (state_underscore, rules)

pub returns-in-InputOrData : goal.returns-in-InputOrData
returns-in-InputOrData c = search (state_reserved, rules)

pub returns-in-Ordinary : goal.returns-in-Ordinary
returns-in-Ordinary c = search (state_ordinary, rules)
