use Rattle.common_example.proofs.loops.graph.PlaceLaws.{underscore_place, unheld_place, held_place, held_four, held_fits}
use borrow.Author.Rules.{rules}
use Rattle.common_example.proofs.graph.node_places.name_place.Goals as goal

pub returns-then-is_underscore : goal.returns-then-is_underscore
returns-then-is_underscore c = search (underscore_place, rules)

pub returns-then-value-eq0 : goal.returns-then-value-eq0
returns-then-value-eq0 c = search (unheld_place, rules)

pub overflow_mul-result-2 : goal.overflow_mul-result-2
overflow_mul-result-2 c = search (held_four, rules)

pub overflow_add-result-2 : goal.overflow_add-result-2
overflow_add-result-2 c = search (held_fits, rules)

pub returns : goal.returns
returns c = search (held_place, rules)
