use Rattle.operation.proofs.OperationParts.{first_good, second_good}
use Rattle.operation.proofs.ReservedNames.{reserved_first, reserved_none, reserved_second}
use borrow.Author.Rules.{rules}
use Rattle.operation.proofs.version.first_reserved.Goals as goal

pub reserved_in-node-requires : goal.reserved_in-node-requires
reserved_in-node-requires c = search (first_good, rules)

pub returns-then-node-ne0 : goal.returns-then-node-ne0
returns-then-node-ne0 c = search (reserved_first, rules)

pub returns-then-not-patterns : goal.returns-then-not-patterns
returns-then-not-patterns c = search (reserved_none, rules)

pub reserved_in-requires : goal.reserved_in-requires
reserved_in-requires c = search (second_good, rules)

pub returns : goal.returns
returns c = search (reserved_second, rules)
