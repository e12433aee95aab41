use Rattle.assignment.proofs.preview.Previews.{roomy_kept, sides_told}
use borrow.Author.Rules.{rules}
use Rattle.assignment.proofs.preview.preview_sides.Goals as goal

pub preview_binding_plan-one-requires : goal.preview_binding_plan-one-requires
preview_binding_plan-one-requires c = search (roomy_kept, rules)

pub returns : goal.returns
returns c = search (sides_told, rules)
