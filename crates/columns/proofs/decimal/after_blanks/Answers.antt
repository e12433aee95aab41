use Rattle.columns.proofs.read.Reading.{skip_start, skip_on, skip_stops, skip_ends}
use borrow.Author.Rules.{rules}
use Rattle.columns.proofs.decimal.after_blanks.Goals as goal

pub loop-i-init : goal.loop-i-init
loop-i-init c = search (skip_start, rules)

pub returns-then-byte-ne32 : goal.returns-then-byte-ne32
returns-then-byte-ne32 c = search (skip_stops, rules)

pub loop-i-preserved : goal.loop-i-preserved
loop-i-preserved c = search (skip_on, rules)

pub returns : goal.returns
returns c = search (skip_ends, rules)
