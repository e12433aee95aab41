use Rattle.operation.proofs.OperationParts.{first_inside, first_outside}
use borrow.Author.Rules.{rules}
use Rattle.operation.proofs.patterns.are_nodes.Goals as goal

pub returns-then-is_node : goal.returns-then-is_node
returns-then-is_node c = search (first_inside, rules)

pub returns : goal.returns
returns c = search (first_outside, rules)
