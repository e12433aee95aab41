use Rattle.matching.proofs.reading.Chains.{chain_fits, chaining_start, chaining_index, chaining_word, chaining_bytes, chaining_pair, chaining_small, chaining_sum, chaining_low, chaining_place, chaining_on, chaining_ends}
use borrow.Author.Rules.{rules}
use Rattle.matching.proofs.links.link_children.Goals as goal

pub overflow_add-child : goal.overflow_add-child
overflow_add-child c = search (chain_fits, rules)

pub loop-i-init : goal.loop-i-init
loop-i-init c = search (chaining_start, rules)

pub offset_bounds-scratch-child : goal.offset_bounds-scratch-child
offset_bounds-scratch-child c = search (chaining_bytes, rules)

pub bounds-scratch-child : goal.bounds-scratch-child
bounds-scratch-child c = search (chaining_word, rules)

pub overflow_cast-links : goal.overflow_cast-links
overflow_cast-links c = search (chaining_small, rules)

pub overflow_add-links : goal.overflow_add-links
overflow_add-links c = search (chaining_sum, rules)

pub overflow_sub-links : goal.overflow_sub-links
overflow_sub-links c = search (chaining_low, rules)

pub bounds-links-start : goal.bounds-links-start
bounds-links-start c = search (chaining_place, rules)

pub offset_bounds-nexts-child : goal.offset_bounds-nexts-child
offset_bounds-nexts-child c = search (chaining_pair, rules)

pub bounds-nexts-child : goal.bounds-nexts-child
bounds-nexts-child c = search (chaining_index, rules)

pub loop-i-preserved : goal.loop-i-preserved
loop-i-preserved c = search (chaining_on, rules)

pub returns : goal.returns
returns c = search (chaining_ends, rules)
