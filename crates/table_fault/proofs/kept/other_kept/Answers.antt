use Rattle.table_fault.proofs.Cases.{asked_low, ask_number, ask_entry, ask_places, ask_name, ask_depths, ask_deep, ask_node, kept_name, kept_number, kept_entry, kept_once, kept_apart, kept_mark, kept_depth, kept_differs, kept_node}
use borrow.Author.Rules.{rules}
use Rattle.table_fault.proofs.kept.other_kept.Goals as goal

pub overflow_sub-i : goal.overflow_sub-i
overflow_sub-i c = search (asked_low, rules)

pub number_ok-requires : goal.number_ok-requires
number_ok-requires c = search (ask_number, rules)

pub is_new_entry-requires : goal.is_new_entry-requires
is_new_entry-requires c = search (ask_entry, rules)

pub has_new_places-requires : goal.has_new_places-requires
has_new_places-requires c = (search (asked_low, rules), search (ask_places, rules))

pub depths_ok-requires : goal.depths_ok-requires
depths_ok-requires c = (search (ask_depths, rules), search (ask_deep, rules))

pub is_new_name-requires : goal.is_new_name-requires
is_new_name-requires c = (search (asked_low, rules), search (ask_name, rules))

pub node_kept-requires : goal.node_kept-requires
node_kept-requires c = search (ask_node, rules)

pub returns-in-10 : goal.returns-in-10
returns-in-10 c = search (kept_name, rules)

pub returns-in-11 : goal.returns-in-11
returns-in-11 c = search (kept_number, rules)

pub returns-in-12 : goal.returns-in-12
returns-in-12 c = search (kept_entry, rules)

pub returns-in-19 : goal.returns-in-19
returns-in-19 c = search (kept_once, rules)

pub returns-in-20 : goal.returns-in-20
returns-in-20 c = search (kept_apart, rules)

pub returns-in-21 : goal.returns-in-21
returns-in-21 c = search (kept_mark, rules)

pub returns-in-22 : goal.returns-in-22
returns-in-22 c = search (kept_depth, rules)

pub returns-in-23 : goal.returns-in-23
returns-in-23 c = search (kept_differs, rules)

pub returns-in_default : goal.returns-in_default
returns-in_default c = search (kept_node, rules)
