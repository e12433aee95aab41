use Rattle.sheet.proofs.lines.LineTests.{line_fits, line_end_fits, line_part_fits, line_place_fits, first_word_fits, line_end_place, line_cut, line_start, column_fits, column_place_fits, column_there, word_room, line_on, line_fails, line_ends}
use borrow.Author.Rules.{rules}
use Rattle.sheet.proofs.lines.read_line.Goals as goal

pub overflow_mul-place : goal.overflow_mul-place
overflow_mul-place c = search (line_fits, rules)

pub overflow_add-place : goal.overflow_add-place
overflow_add-place c = search (line_end_fits, rules)

pub overflow_mul-place-2 : goal.overflow_mul-place-2
overflow_mul-place-2 c = search (line_part_fits, rules)

pub overflow_add-place-2 : goal.overflow_add-place-2
overflow_add-place-2 c = search (line_place_fits, rules)

pub overflow_mul-end : goal.overflow_mul-end
overflow_mul-end c = search (line_fits, rules)

pub overflow_add-end : goal.overflow_add-end
overflow_add-end c = search (line_end_place, rules)

pub returns-then-sheet-end : goal.returns-then-sheet-end
returns-then-sheet-end c = search (line_cut, rules)

pub overflow_mul-first : goal.overflow_mul-first
overflow_mul-first c = search (first_word_fits, rules)

pub loop-j-init : goal.loop-j-init
loop-j-init c = search (line_start, rules)

pub overflow_mul-j : goal.overflow_mul-j
overflow_mul-j c = search (column_fits, rules)

pub overflow_add-place-in-loop-j : goal.overflow_add-place-in-loop-j
overflow_add-place-in-loop-j c = search (column_place_fits, rules)

pub read_word-requires : goal.read_word-requires
read_word-requires c = (search (column_there, rules), search (word_room, rules))

pub returns-then-not-read_word : goal.returns-then-not-read_word
returns-then-not-read_word c = search (line_fails, rules)

pub loop-j-preserved : goal.loop-j-preserved
loop-j-preserved c = line_on (search rules) (search rules) (search rules) c.read_word.ensures (search rules)

pub returns : goal.returns
returns c = search (line_ends, rules)
