use Rattle.planner.proofs.fields.FieldLoops.{arranging_start, arranging_next, arranging_on, arranging_ends}
use borrow.Author.Rules.{rules}
use Rattle.planner.proofs.inner.fields.order_fields.Goals as goal

pub loop-i-init : goal.loop-i-init
loop-i-init c = search (arranging_start, rules)

pub add_field-sizes-requires : goal.add_field-sizes-requires
add_field-sizes-requires c = search (arranging_next, rules)

pub loop-i-preserved : goal.loop-i-preserved
loop-i-preserved c = search (arranging_on, rules)

pub returns : goal.returns
returns c = search (arranging_ends, rules)
