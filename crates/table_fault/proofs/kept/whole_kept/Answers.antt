use Rattle.table_fault.proofs.Cases.{whole_nodes, whole_children, whole_numbers, whole_names, whole_strings, whole_text, whole_node_words, whole_number_words, whole_name_words}
use borrow.Author.Rules.{rules}
use Rattle.table_fault.proofs.kept.whole_kept.Goals as goal

pub returns-in-1 : goal.returns-in-1
returns-in-1 c = search (whole_nodes, rules)

pub returns-in-2 : goal.returns-in-2
returns-in-2 c = search (whole_children, rules)

pub returns-in-3 : goal.returns-in-3
returns-in-3 c = search (whole_numbers, rules)

pub returns-in-4 : goal.returns-in-4
returns-in-4 c = search (whole_names, rules)

pub returns-in-5 : goal.returns-in-5
returns-in-5 c = search (whole_strings, rules)

pub returns-in-6 : goal.returns-in-6
returns-in-6 c = search (whole_text, rules)

pub returns-in-7 : goal.returns-in-7
returns-in-7 c = search (whole_node_words, rules)

pub returns-in-8 : goal.returns-in-8
returns-in-8 c = search (whole_number_words, rules)

pub returns-in_default : goal.returns-in_default
returns-in_default c = search (whole_name_words, rules)
