use Rattle.table.proofs.tests.Scan.{scan_start, scan_ends, all_on, all_fails}
use borrow.Author.Rules.{rules}
use Rattle.table.proofs.rules.entries_ok.Goals as goal

pub loop-place-init : goal.loop-place-init
loop-place-init c = search (scan_start, rules)

pub returns-then-not-is_node : goal.returns-then-not-is_node
returns-then-not-is_node c = search (all_fails, rules)

pub loop-place-preserved : goal.loop-place-preserved
loop-place-preserved c = search (all_on, rules)

pub returns : goal.returns
returns c = search (scan_ends, rules)
