use Rattle.tolerance.proofs.nodes.RangeTests.{short_low, short_high, given_ask, given_names, given_value, given_told}
use borrow.Author.Rules.{rules}
use Rattle.tolerance.proofs.ranges_given.Goals as goal

pub returns-then-ranges-tables : goal.returns-then-ranges-tables
returns-then-ranges-tables c = search (short_low, rules)

pub returns-then-ranges-tables-2 : goal.returns-then-ranges-tables-2
returns-then-ranges-tables-2 c = search (short_high, rules)

pub numbers_ok-requires : goal.numbers_ok-requires
numbers_ok-requires c = search (given_ask, rules)

pub returns-then-not-numbers_ok : goal.returns-then-not-numbers_ok
returns-then-not-numbers_ok c = search (given_value, rules)

pub names_ok-requires : goal.names_ok-requires
names_ok-requires c = search (given_names, rules)

pub returns : goal.returns
returns c = search (given_told, rules)
