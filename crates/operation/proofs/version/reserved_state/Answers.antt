use Rattle.operation.proofs.ReservedNames.{kept_underscore, kept_reserved, not_reserved}
use borrow.Author.Rules.{rules}
use Rattle.operation.proofs.version.reserved_state.Goals as goal

pub returns-in-Underscore : goal.returns-in-Underscore
returns-in-Underscore c = search (kept_underscore, rules)

pub returns-in-InputOrData : goal.returns-in-InputOrData
returns-in-InputOrData c = search (kept_reserved, rules)

pub returns-in-Ordinary : goal.returns-in-Ordinary
returns-in-Ordinary c = search (not_reserved, rules)
