use Rattle.sheet.proofs.tables.NameWords.{marking_start, mark_part_fits, mark_place_fits, mark_there, mark_large, mark_fits, mark_room, mark_on, marking_ends}
use borrow.Author.Rules.{rules}
use Rattle.sheet.proofs.tables.fill_marks.Goals as goal

pub loop-x-init : goal.loop-x-init
loop-x-init c = search (marking_start, rules)

pub overflow_mul-mark : goal.overflow_mul-mark
overflow_mul-mark c = search (mark_part_fits, rules)

pub overflow_add-mark : goal.overflow_add-mark
overflow_add-mark c = search (mark_place_fits, rules)

pub bounds-rows-x : goal.bounds-rows-x
bounds-rows-x c = search (mark_there, rules)

pub returns-then-mark-gt-MOST_MARKS : goal.returns-then-mark-gt-MOST_MARKS
returns-then-mark-gt-MOST_MARKS c = search (mark_large, rules)

pub overflow_cast-marks : goal.overflow_cast-marks
overflow_cast-marks c = search (mark_fits, rules)

pub bounds-marks-x : goal.bounds-marks-x
bounds-marks-x c = search (mark_room, rules)

pub loop-x-preserved : goal.loop-x-preserved
loop-x-preserved c = search (mark_on, rules)

pub returns : goal.returns
returns c = search (marking_ends, rules)
