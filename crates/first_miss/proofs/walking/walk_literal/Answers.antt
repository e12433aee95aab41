use Rattle.first_miss.proofs.nodes.WalkNodes.{ask_same, literal_same, literal_differs}
use borrow.Author.Rules.{rules}
use Rattle.first_miss.proofs.walking.walk_literal.Goals as goal

pub same_value-requires : goal.same_value-requires
same_value-requires c = search (ask_same, rules)

pub returns-then-same_value : goal.returns-then-same_value
returns-then-same_value c = search (literal_same, rules)

pub returns : goal.returns
returns c = search (literal_differs, rules)
