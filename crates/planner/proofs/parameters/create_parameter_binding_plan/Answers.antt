use Rattle.planner.proofs.laws.Validating.{parameter_respects, parameter_shadows}
use borrow.Author.Rules.{rules}
use Rattle.planner.proofs.parameters.create_parameter_binding_plan.Goals as goal

pub returns-in-RespectParent : goal.returns-in-RespectParent
returns-in-RespectParent c = search (parameter_respects, rules)

pub returns-in-AllowShadowing : goal.returns-in-AllowShadowing
returns-in-AllowShadowing c = search (parameter_shadows, rules)
