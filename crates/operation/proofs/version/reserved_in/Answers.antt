use Rattle.operation.proofs.ReservedNames.{ask_reserved, reserved_found}
use borrow.Author.Rules.{rules}
use Rattle.operation.proofs.version.reserved_in.Goals as goal

pub first_name-requires : goal.first_name-requires
first_name-requires c = search (ask_reserved, rules)

pub returns : goal.returns
returns c = search (reserved_found, rules)
