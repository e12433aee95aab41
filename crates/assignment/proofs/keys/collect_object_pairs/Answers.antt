use Rattle.assignment.proofs.keys.KeyAnswers.{ask_order, keys_differ, ask_missing, key_missing, keys_same}
use Rattle.planner.proofs.fields.FieldLoops.{arranged_first}
use borrow.Author.Rules.{rules}
use Rattle.assignment.proofs.keys.collect_object_pairs.Goals as goal

pub order_fields-keys-requires : goal.order_fields-keys-requires
order_fields-keys-requires c = search (ask_order, rules)

pub returns-then-keys-count : goal.returns-then-keys-count
returns-then-keys-count c = search (keys_differ, arranged_first, rules)

pub first_missing-key-requires : goal.first_missing-key-requires
first_missing-key-requires c = ask_missing c.requires c.first_of-left_first.ensures c.count_of-left_count.ensures (arranged_first c.order_fields-keys.ensures) c.count_of-count.ensures c.first_of-first.ensures

pub returns-then-key-ne0 : goal.returns-then-key-ne0
returns-then-key-ne0 c = search (key_missing, arranged_first, rules)

pub returns : goal.returns
returns c = search (keys_same, arranged_first, rules)
