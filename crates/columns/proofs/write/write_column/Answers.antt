use Rattle.columns.proofs.write.Writing.{column_short, column_past, rest_room, column_written, digit_written, set_kept}
use borrow.Author.Rules.{rules}
use Rattle.columns.proofs.write.write_column.Goals as goal

pub returns-then-out-lt6 : goal.returns-then-out-lt6
returns-then-out-lt6 c = search (column_short, rules)

pub returns-then-out-at : goal.returns-then-out-at
returns-then-out-at c = search (column_past, rules)

pub write_blanks-requires : goal.write_blanks-requires
write_blanks-requires c = search (rest_room, rules)

pub shape_of-out-then-n-lt10 : goal.shape_of-out-then-n-lt10
shape_of-out-then-n-lt10 c = search (set_kept, rules)

pub returns-then-n-lt10 : goal.returns-then-n-lt10
returns-then-n-lt10 c = search (digit_written, rules)

pub write_rest-requires : goal.write_rest-requires
write_rest-requires c = search (rest_room, rules)

pub shape_of-out : goal.shape_of-out
shape_of-out c = search (set_kept, rules)

pub returns : goal.returns
returns c = search (column_written, rules)
