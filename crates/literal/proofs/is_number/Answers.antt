use Rattle.literal.proofs.Numbers.{number_above, number_minus_zero, number_below, number_unsigned}
use borrow.Author.Rules.{rules}
use Rattle.literal.proofs.is_number.Goals as goal

pub returns-then-below-eq0 : goal.returns-then-below-eq0
returns-then-below-eq0 c = search (number_above, rules)

pub returns-then-size-eq0 : goal.returns-then-size-eq0
returns-then-size-eq0 c = search (number_minus_zero, rules)

pub returns-then-below-eq1 : goal.returns-then-below-eq1
returns-then-below-eq1 c = search (number_below, rules)

pub returns : goal.returns
returns c = search (number_unsigned, rules)
