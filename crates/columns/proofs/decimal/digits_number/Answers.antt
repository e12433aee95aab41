use Rattle.columns.proofs.read.Reading.{reading_start, reading_low, reading_high, reading_past, reading_large, reading_on, reading_ends}
use borrow.Author.Rules.{rules}
use Rattle.columns.proofs.decimal.digits_number.Goals as goal

pub loop-byte-init : goal.loop-byte-init
loop-byte-init c = search (reading_start, rules)

pub returns-then-byte-lt48 : goal.returns-then-byte-lt48
returns-then-byte-lt48 c = search (reading_low, rules)

pub returns-then-byte-gt57 : goal.returns-then-byte-gt57
returns-then-byte-gt57 c = search (reading_high, rules)

pub returns-then-n-gt1844674407370955161 : goal.returns-then-n-gt1844674407370955161
returns-then-n-gt1844674407370955161 c = search (reading_past, rules)

pub returns-then-n-digit : goal.returns-then-n-digit
returns-then-n-digit c = search (reading_large, rules)

pub loop-byte-preserved : goal.loop-byte-preserved
loop-byte-preserved c = search (reading_on, rules)

pub returns : goal.returns
returns c = search (reading_ends, rules)
