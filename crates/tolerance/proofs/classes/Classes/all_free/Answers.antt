use Rattle.table.proofs.tests.Scan.{scan_start, scan_ends}
use Rattle.tolerance.proofs.nodes.Joining.{looking_on, looking_fails}
use borrow.Author.Rules.{rules}
use Rattle.tolerance.proofs.classes.Classes.all_free.Goals as goal

pub loop-i-init : goal.loop-i-init
loop-i-init c = search (scan_start, rules)

pub returns-then-not-is_free : goal.returns-then-not-is_free
returns-then-not-is_free c = search (looking_fails, rules)

pub loop-i-preserved : goal.loop-i-preserved
loop-i-preserved c = search (looking_on, rules)

pub returns : goal.returns
returns c = search (scan_ends, rules)
