use Rattle.common_example.proofs.loops.classes.MeetLoops.{literals_met_lem, heads_uneven, heads_items, items_met, heads_fields, fields_met}
use borrow.Author.Rules.{rules}
use Rattle.common_example.proofs.classes.meet_heads.Goals as goal

pub returns-then-kind-eq-LITERAL : goal.returns-then-kind-eq-LITERAL
returns-then-kind-eq-LITERAL c = search (literals_met_lem, rules)

pub returns-then-count_at-count : goal.returns-then-count_at-count
returns-then-count_at-count c = search (heads_uneven, rules)

pub join_items-requires : goal.join_items-requires
join_items-requires c = search (heads_items, rules)

pub returns-then-kind-eq-ARRAY : goal.returns-then-kind-eq-ARRAY
returns-then-kind-eq-ARRAY c = search (items_met, rules)

pub join_fields-requires : goal.join_fields-requires
join_fields-requires c = search (heads_fields, rules)

pub returns : goal.returns
returns c = search (fields_met, rules)
