use Rattle.common_example.proofs.loops.graph.PlaceLaws.{name_asks, name_node_lem, other_node}
use borrow.Author.Rules.{rules}
use Rattle.common_example.proofs.graph.node_places.node_place.Goals as goal

pub name_place-requires : goal.name_place-requires
name_place-requires c = search (name_asks, rules)

pub returns-then-kind_of-eq-NAME : goal.returns-then-kind_of-eq-NAME
returns-then-kind_of-eq-NAME c = search (name_node_lem, rules)

pub returns : goal.returns
returns c = search (other_node, rules)
