use Rattle.report.proofs.Reporting.{report_table, report_root, report_short, ask_report, report_done}
use borrow.Author.Rules.{rules}
use Rattle.report.proofs.names_report.Goals as goal

pub returns-in-Err : goal.returns-in-Err
returns-in-Err c = search (report_table, rules)

pub returns-then-not-is_node : goal.returns-then-not-is_node
returns-then-not-is_node c = search (report_root, rules)

pub returns-then-list-tables : goal.returns-then-list-tables
returns-then-list-tables c = search (report_short, rules)

pub report_names-requires : goal.report_names-requires
report_names-requires c = ask_report _ _ c.args.scoping _ _ c.check-checked.ensures c.in_default.is c.is_node.ensures c.if-not-is_node.false-raw c.if-list-tables.false

pub returns : goal.returns
returns c = search (report_done, rules)
