use Rattle.planner.proofs.laws.Validating.{ask_first, first_validated}
use borrow.Author.Rules.{rules}
use Rattle.planner.proofs.inner.parameters.validate_pattern_bindings.Goals as goal

pub first_name-requires : goal.first_name-requires
first_name-requires c = search (ask_first, rules)

pub returns : goal.returns
returns c = search (first_validated, rules)
