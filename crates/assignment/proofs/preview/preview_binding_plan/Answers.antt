use Rattle.assignment.proofs.preview.Previews.{ask_preview, previewed}
use borrow.Author.Rules.{rules}
use Rattle.assignment.proofs.preview.preview_binding_plan.Goals as goal

pub create_destructuring_plan_with_tracking-planned-requires : goal.create_destructuring_plan_with_tracking-planned-requires
create_destructuring_plan_with_tracking-planned-requires c = search (ask_preview, rules)

pub returns : goal.returns
returns c = search (previewed, rules)
