use Rattle.common_example.proofs.loops.sizes.Decisions.{decide_inside, decide_deep, decided_deep, decided_size, decided_words, decided_entries, decided_fits}
use borrow.Author.Rules.{rules}
use Rattle.common_example.proofs.deciding.decide.Goals as goal

pub size_at-size-requires : goal.size_at-size-requires
size_at-size-requires c = search (decide_inside, rules)

pub decide_deep-requires : goal.decide_deep-requires
decide_deep-requires c = search (decide_deep, rules)

pub returns-then-size-eq0 : goal.returns-then-size-eq0
returns-then-size-eq0 c = search (decided_deep, rules)

pub returns-then-size-gt512 : goal.returns-then-size-gt512
returns-then-size-gt512 c = search (decided_size, rules)

pub returns-then-words-size : goal.returns-then-words-size
returns-then-words-size c = search (decided_words, rules)

pub returns-then-entries-size : goal.returns-then-entries-size
returns-then-entries-size c = search (decided_entries, rules)

pub returns : goal.returns
returns c = search (decided_fits, rules)
