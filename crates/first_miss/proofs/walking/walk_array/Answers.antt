use Rattle.first_miss.proofs.nodes.WalkNodes.{no_array, other_length, arrays_alike}
use borrow.Author.Rules.{rules}
use Rattle.first_miss.proofs.walking.walk_array.Goals as goal

pub returns-then-kind_of-ne-ARRAY : goal.returns-then-kind_of-ne-ARRAY
returns-then-kind_of-ne-ARRAY c = search (no_array, rules)

pub returns-then-count_of : goal.returns-then-count_of
returns-then-count_of c = other_length _ _ _ c.kind_of.ensures c.if-kind_of-ne-ARRAY.false c.count_of.ensures c.count_of-2.ensures c.if-count_of.true

pub returns : goal.returns
returns c = search (arrays_alike, rules)
