use Rattle.table.proofs.tests.Scan.{scan_start, scan_ends}
use Rattle.body.proofs.SideCases.{lines_fail, lines_on}
use borrow.Author.Rules.{rules}
use Rattle.body.proofs.lines.are_lines.Goals as goal

pub loop-i-init : goal.loop-i-init
loop-i-init c = (search (scan_start, rules), search rules)

pub returns-then-not-is_line : goal.returns-then-not-is_line
returns-then-not-is_line c = search (lines_fail, rules)

pub loop-i-preserved : goal.loop-i-preserved
loop-i-preserved c = (search (lines_on, rules), search rules)

pub returns : goal.returns
returns c = search (scan_ends, rules)
