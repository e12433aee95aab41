use Rattle.table_fault.proofs.Cases.{node_low, node_high, node_inside, node_kind, node_span, node_unused, node_range, node_text, node_below}
use borrow.Author.Rules.{rules}
use Rattle.table_fault.proofs.kept.node_kept.Goals as goal

pub overflow_sub-i : goal.overflow_sub-i
overflow_sub-i c = search (node_low, rules)

pub span_ok-requires : goal.span_ok-requires
span_ok-requires c = search (node_inside, rules)

pub text_ok-requires : goal.text_ok-requires
text_ok-requires c = (search (node_low, rules), search (node_high, rules))

pub children_below-requires : goal.children_below-requires
children_below-requires c = search (node_inside, rules)

pub returns-in-13 : goal.returns-in-13
returns-in-13 c = search (node_kind, rules)

pub returns-in-14 : goal.returns-in-14
returns-in-14 c = search (node_span, rules)

pub returns-in-15 : goal.returns-in-15
returns-in-15 c = search (node_unused, rules)

pub returns-in-16 : goal.returns-in-16
returns-in-16 c = search (node_range, rules)

pub returns-in-17 : goal.returns-in-17
returns-in-17 c = search (node_text, rules)

pub returns-in_default : goal.returns-in_default
returns-in_default c = search (node_below, rules)
