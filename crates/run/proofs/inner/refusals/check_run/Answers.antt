use Rattle.run.proofs.Refusing.{table_refused_lem, pattern_outside, value_outside, list_short, ask_checked}
use borrow.Author.Rules.{rules}
use Rattle.run.proofs.inner.refusals.check_run.Goals as goal

pub returns-in_err-check : goal.returns-in_err-check
returns-in_err-check c = search (table_refused_lem, rules)

pub returns-then-not-is_node : goal.returns-then-not-is_node
returns-then-not-is_node c = search (pattern_outside, rules)

pub returns-then-not-is_node-2 : goal.returns-then-not-is_node-2
returns-then-not-is_node-2 c = search (value_outside, rules)

pub returns-then-values-tables : goal.returns-then-values-tables
returns-then-values-tables c = search (list_short, rules)

pub check_inside-requires : goal.check_inside-requires
check_inside-requires c = ask_checked _ _ _ _ _ c.check.ensures c.in_ok-check.was c.is_node.ensures c.if-not-is_node.false-raw c.is_node-2.ensures c.if-not-is_node-2.false-raw c.if-values-tables.false
