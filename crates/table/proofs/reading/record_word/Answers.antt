use Rattle.table.proofs.trees.Words.{word_place, word_place_on, word_none, word_at, word_past}
use borrow.Author.Rules.{rules}
use Rattle.table.proofs.reading.record_word.Goals as goal

pub returns-then-n-eq0 : goal.returns-then-n-eq0
returns-then-n-eq0 c = search (word_none, rules)

pub overflow_mul-at : goal.overflow_mul-at
overflow_mul-at c = search (word_place, rules)

pub overflow_add-at : goal.overflow_add-at
overflow_add-at c = search (word_place_on, rules)

pub returns-then-at-words : goal.returns-then-at-words
returns-then-at-words c = search (word_at, rules)

pub returns : goal.returns
returns c = search (word_past, rules)
