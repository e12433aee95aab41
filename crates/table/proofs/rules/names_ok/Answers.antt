use Rattle.table.proofs.tests.Scan.{scan_start, scan_ends, all_on, all_fails}
use borrow.Author.Rules.{rules}
use Rattle.table.proofs.rules.names_ok.Goals as goal

pub loop-i-init : goal.loop-i-init
loop-i-init c = search (scan_start, rules)

pub returns-then-not-name_ok : goal.returns-then-not-name_ok
returns-then-not-name_ok c = search (all_fails, rules)

pub loop-i-preserved : goal.loop-i-preserved
loop-i-preserved c = search (all_on, rules)

pub returns : goal.returns
returns c = search (scan_ends, rules)
