use Rattle.sheet.proofs.lines.LineTests.{lines_start, line_asked, lines_on, lines_fail, lines_end}
use borrow.Author.Rules.{rules}
use Rattle.sheet.proofs.lines.read_lines.Goals as goal

pub loop-i-init : goal.loop-i-init
loop-i-init c = search (lines_start, rules)

pub read_line-requires : goal.read_line-requires
read_line-requires c = search (line_asked, rules)

pub returns-then-not-read_line : goal.returns-then-not-read_line
returns-then-not-read_line c = search (lines_fail, rules)

pub loop-i-preserved : goal.loop-i-preserved
loop-i-preserved c = search (lines_on, rules)

pub returns : goal.returns
returns c = search (lines_end, rules)
