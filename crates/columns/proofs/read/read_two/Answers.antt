use Rattle.columns.proofs.read.Six.{units_low, units_high, one_digit, tens_low, tens_high, two_digits}
use borrow.Author.Rules.{rules}
use Rattle.columns.proofs.read.read_two.Goals as goal

pub returns-then-low-lt48 : goal.returns-then-low-lt48
returns-then-low-lt48 c = search (units_low, rules)

pub returns-then-low-gt57 : goal.returns-then-low-gt57
returns-then-low-gt57 c = search (units_high, rules)

pub returns-then-high-eq32 : goal.returns-then-high-eq32
returns-then-high-eq32 c = search (one_digit, rules)

pub returns-then-high-lt49 : goal.returns-then-high-lt49
returns-then-high-lt49 c = search (tens_low, rules)

pub returns-then-high-gt57 : goal.returns-then-high-gt57
returns-then-high-gt57 c = search (tens_high, rules)

pub returns : goal.returns
returns c = search (two_digits, rules)
