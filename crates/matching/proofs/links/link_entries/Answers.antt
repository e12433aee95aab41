use Rattle.matching.proofs.reading.Chains.{linking_start, linking_index, linking_word, linking_room, linking_small, linking_asks, linking_next, linking_on, linking_ends}
use borrow.Author.Rules.{rules}
use Rattle.matching.proofs.links.link_entries.Goals as goal

pub loop-at-init : goal.loop-at-init
loop-at-init c = search (linking_start, rules)

pub offset_bounds-scratch-at : goal.offset_bounds-scratch-at
offset_bounds-scratch-at c = search (linking_index, rules)

pub bounds-scratch-at : goal.bounds-scratch-at
bounds-scratch-at c = search (linking_word, rules)

pub overflow_sub-free : goal.overflow_sub-free
overflow_sub-free c = search (linking_room, rules)

pub overflow_cast-starts : goal.overflow_cast-starts
overflow_cast-starts c = search (linking_small, rules)

pub bounds-starts-at : goal.bounds-starts-at
bounds-starts-at c = search (linking_index, rules)

pub link_children-next-requires : goal.link_children-next-requires
link_children-next-requires c = search (linking_asks, rules)

pub overflow_cast-nexts : goal.overflow_cast-nexts
overflow_cast-nexts c = search (linking_next, rules)

pub bounds-nexts-at : goal.bounds-nexts-at
bounds-nexts-at c = search (linking_index, rules)

pub loop-at-preserved : goal.loop-at-preserved
loop-at-preserved c = search (linking_on, rules)

pub returns : goal.returns
returns c = search (linking_ends, rules)
