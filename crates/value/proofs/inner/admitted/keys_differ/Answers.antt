use Rattle.value.proofs.Distinct.{ask_order, count_differs}
use Rattle.planner.proofs.fields.FieldLoops.{arranged_first}
use borrow.Author.Rules.{rules}
use Rattle.value.proofs.inner.admitted.keys_differ.Goals as goal

pub order_fields-total-requires : goal.order_fields-total-requires
order_fields-total-requires c = search (ask_order, rules)

pub returns : goal.returns
returns c = search (count_differs, arranged_first, rules)
