use Rattle.operation.proofs.OperationParts.{keyless_roots, key_inside, key_outside}
use borrow.Author.Rules.{rules}
use Rattle.operation.proofs.patterns.are_some_in_nodes.Goals as goal

pub returns-then-key-eq0 : goal.returns-then-key-eq0
returns-then-key-eq0 c = search (keyless_roots, rules)

pub returns-then-is_node : goal.returns-then-is_node
returns-then-is_node c = search (key_inside, rules)

pub returns : goal.returns
returns c = search (key_outside, rules)
