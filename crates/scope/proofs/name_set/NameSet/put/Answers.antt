use Rattle.scope.proofs.Cases.{put_outside, first_bit, high_bit, put_low, put_high}
use borrow.Author.Rules.{rules}
use Rattle.scope.proofs.name_set.NameSet.put.Goals as goal

pub returns-then-not-is_name : goal.returns-then-not-is_name
returns-then-not-is_name c = search (put_outside, rules)

pub overflow_sub-name : goal.overflow_sub-name
overflow_sub-name c = search (first_bit, rules)

pub returns-then-name-le64 : goal.returns-then-name-le64
returns-then-name-le64 c = search (put_low, rules)

pub put_bit-requires-2 : goal.put_bit-requires-2
put_bit-requires-2 c = search (high_bit, rules)

pub returns : goal.returns
returns c = search (put_high, rules)
