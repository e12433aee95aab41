use Rattle.sheet.proofs.lines.LineTests.{number_part_fits, number_place_fits, number_end_place, number_room, size_room, number_read, number_unread}
use borrow.Author.Rules.{rules}
use Rattle.sheet.proofs.lines.read_number.Goals as goal

pub overflow_mul-place : goal.overflow_mul-place
overflow_mul-place c = search (number_part_fits, rules)

pub overflow_add-place : goal.overflow_add-place
overflow_add-place c = search (number_place_fits, rules)

pub bounds-out-i : goal.bounds-out-i
bounds-out-i c = search (number_room, rules)

pub bounds-out-i-2 : goal.bounds-out-i-2
bounds-out-i-2 c = search (size_room, rules)

pub overflow_add-place-2 : goal.overflow_add-place-2
overflow_add-place-2 c = search (number_end_place, rules)

pub returns : goal.returns
returns c = search (number_read, rules)

pub returns-in_default : goal.returns-in_default
returns-in_default c = search (number_unread, rules)
