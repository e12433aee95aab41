use Rattle.plan_store.proofs.Reading.{read_none, read_low, read_among, read_sum, read_asks, read_done}
use borrow.Author.Rules.{rules}
use Rattle.plan_store.proofs.read_entry.Goals as goal

pub returns-then-not-has_entry : goal.returns-then-not-has_entry
returns-then-not-has_entry c = search (read_none, rules)

pub overflow_sub-pack : goal.overflow_sub-pack
overflow_sub-pack c = search (read_low, rules)

pub entries_end-first-requires : goal.entries_end-first-requires
entries_end-first-requires c = search (read_among, rules)

pub overflow_add-first : goal.overflow_add-first
overflow_add-first c = search (read_sum, rules)

pub words_at-requires : goal.words_at-requires
words_at-requires c = search (read_asks, rules)

pub returns : goal.returns
returns c = search (read_done, rules)
