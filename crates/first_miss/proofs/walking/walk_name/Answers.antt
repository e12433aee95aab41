use Rattle.first_miss.proofs.nodes.WalkNodes.{wild_met, name_low, place_inside, name_set, ask_held, name_same, name_differs}
use borrow.Author.Rules.{rules}
use Rattle.first_miss.proofs.walking.walk_name.Goals as goal

pub returns-then-is_wildcard : goal.returns-then-is_wildcard
returns-then-is_wildcard c = search (wild_met, rules)

pub overflow_sub-place : goal.overflow_sub-place
overflow_sub-place c = search (name_low, rules)

pub bounds-list-place : goal.bounds-list-place
bounds-list-place c = search (place_inside, rules)

pub bounds-list-place-then-held-eq0 : goal.bounds-list-place-then-held-eq0
bounds-list-place-then-held-eq0 c = search (place_inside, rules)

pub returns-then-held-eq0 : goal.returns-then-held-eq0
returns-then-held-eq0 c = search (name_set, rules)

pub same_value-requires : goal.same_value-requires
same_value-requires c = search (ask_held, rules)

pub returns-then-same_value : goal.returns-then-same_value
returns-then-same_value c = search (name_same, rules)

pub returns : goal.returns
returns c = search (name_differs, rules)
