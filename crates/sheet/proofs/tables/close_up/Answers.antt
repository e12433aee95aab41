use Rattle.sheet.proofs.tables.NameWords.{overlaid_none, overlaid_first, words_fit, row_fits, row_word_fits, row_word_there, name_room, name_on}
use borrow.Author.Rules.{rules}
use Rattle.sheet.proofs.tables.close_up.Goals as goal

pub overflow_mul-words : goal.overflow_mul-words
overflow_mul-words c = search (words_fit, rules)

pub loop-w-init : goal.loop-w-init
loop-w-init c = search (overlaid_none, rules)

pub overflow_mul-rows : goal.overflow_mul-rows
overflow_mul-rows c = search (row_fits, rules)

pub overflow_add-rows : goal.overflow_add-rows
overflow_add-rows c = search (row_word_fits, rules)

pub bounds-rows-w : goal.bounds-rows-w
bounds-rows-w c = search (row_word_there, rules)

pub bounds-rows-w-in-loop-w : goal.bounds-rows-w-in-loop-w
bounds-rows-w-in-loop-w c = search (name_room, rules)

pub loop-w-preserved : goal.loop-w-preserved
loop-w-preserved c = search (name_on, rules)

pub returns : goal.returns
returns c = search (overlaid_first, rules)
