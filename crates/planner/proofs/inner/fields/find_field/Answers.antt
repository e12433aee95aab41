use Rattle.planner.proofs.fields.FieldLoops.{field_searches}
use Rattle.literal.proofs.Searched.{searched}
use Rattle.std.proofs.Common.{rules, of_calls}
use Rattle.planner.proofs.inner.fields.find_field.Goals as goal

pub returns : goal.returns
returns c =
    let keys = field_searches c.requires c.told-order in
    record { place = searched keys _ c.search_by.ensures.bound c.search_by.ensures.position (λ a r f k. search (rules, of_calls)) }
