use Rattle.checks.proofs.PatternObjects.{ask_order, ask_both, keys_compared}
use Rattle.planner.proofs.fields.FieldLoops.{arranged_first}
use borrow.Author.Rules.{rules}
use Rattle.checks.proofs.texts.compare_object_keys.Goals as goal

pub order_fields-total-requires : goal.order_fields-total-requires
order_fields-total-requires c = search (ask_order, rules)

pub compare_texts-requires : goal.compare_texts-requires
compare_texts-requires c = ask_both c.requires c.first_of-first.ensures c.count_of-count.ensures (arranged_first c.order_fields-total.ensures) c.first_of-from.ensures c.count_of-size.ensures

pub returns : goal.returns
returns c = search (keys_compared, arranged_first, rules)
