use Rattle.scope.proofs.Cases.{in_no_set, first_bit, high_bit, in_low, in_high}
use borrow.Author.Rules.{rules}
use Rattle.scope.proofs.name_set.NameSet.contains.Goals as goal

pub returns-then-not-is_name : goal.returns-then-not-is_name
returns-then-not-is_name c = search (in_no_set, rules)

pub overflow_sub-name : goal.overflow_sub-name
overflow_sub-name c = search (first_bit, rules)

pub returns-then-name-le64 : goal.returns-then-name-le64
returns-then-name-le64 c = search (in_low, rules)

pub has_bit-requires-2 : goal.has_bit-requires-2
has_bit-requires-2 c = search (high_bit, rules)

pub returns : goal.returns
returns c = search (in_high, rules)
