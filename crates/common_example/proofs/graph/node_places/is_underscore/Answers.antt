use Rattle.common_example.proofs.loops.graph.PlaceLaws.{class_underscore, class_reserved, class_ordinary}
use borrow.Author.Rules.{rules}
use Rattle.common_example.proofs.graph.node_places.is_underscore.Goals as goal

pub returns-in-Underscore : goal.returns-in-Underscore
returns-in-Underscore c = search (class_underscore, class_reserved, class_ordinary, rules)

pub returns-in-InputOrData : goal.returns-in-InputOrData
returns-in-InputOrData c = search (class_underscore, class_reserved, class_ordinary, rules)

pub returns-in-Ordinary : goal.returns-in-Ordinary
returns-in-Ordinary c = search (class_underscore, class_reserved, class_ordinary, rules)
