use Rattle.literal.proofs.Texts.{sign_length, sign_room, below_digits_room, below_fits, above_digits_room, below_written, above_written}
use borrow.Author.Rules.{rules}
use Rattle.literal.proofs.text.write_number.Goals as goal

pub bounds-out-0 : goal.bounds-out-0
bounds-out-0 c = search (sign_room, rules)

pub write_digits-requires : goal.write_digits-requires
write_digits-requires c = search (below_digits_room, rules)

pub overflow_add-result : goal.overflow_add-result
overflow_add-result c = search (below_fits, rules)

pub shape_of-out-then-below : goal.shape_of-out-then-below
shape_of-out-then-below c = search (sign_length, rules)

pub returns-then-below : goal.returns-then-below
returns-then-below c = search (below_written, rules)

pub write_digits-requires-2 : goal.write_digits-requires-2
write_digits-requires-2 c = search (above_digits_room, rules)

pub returns : goal.returns
returns c = search (above_written, rules)
