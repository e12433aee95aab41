use Rattle.table.proofs.tests.Answers.{nodes_heads, entry_bound, nodes_twice, heads_places, nodes_shared, nodes_below}
use borrow.Author.Rules.{rules}
use Rattle.table.proofs.nodes.nodes_ok.Goals as goal

pub returns-then-not-heads_ok : goal.returns-then-not-heads_ok
returns-then-not-heads_ok c = search (nodes_heads, rules)

pub distinct_entries-requires : goal.distinct_entries-requires
distinct_entries-requires c = search (entry_bound, rules)

pub returns-then-not-distinct_entries : goal.returns-then-not-distinct_entries
returns-then-not-distinct_entries c = search (nodes_twice, rules)

pub places_apart-requires : goal.places_apart-requires
places_apart-requires c = search (heads_places, rules)

pub returns-then-not-places_apart : goal.returns-then-not-places_apart
returns-then-not-places_apart c = search (nodes_shared, rules)

pub returns : goal.returns
returns c = search (nodes_below, rules)
