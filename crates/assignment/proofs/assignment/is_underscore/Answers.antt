use Rattle.assignment.proofs.laws.Sides.{underscore_yes, underscore_reserved, underscore_ordinary, underscore_none}
use borrow.Author.Rules.{rules}
use Rattle.assignment.proofs.assignment.is_underscore.Goals as goal

pub returns-in-Underscore : goal.returns-in-Underscore
returns-in-Underscore c = search (underscore_yes, rules)

pub returns-in-InputOrData : goal.returns-in-InputOrData
returns-in-InputOrData c = search (underscore_reserved, rules)

pub returns-in-Ordinary : goal.returns-in-Ordinary
returns-in-Ordinary c = search (underscore_ordinary, rules)

pub returns : goal.returns
returns c = search (underscore_none, rules)
