use Rattle.run.proofs.Valued.{told_underscore, told_reserved, told_ordinary}
use borrow.Author.Rules.{rules}
use Rattle.run.proofs.inner.names.is_wildcard.Goals as goal

pub returns-in-Underscore : goal.returns-in-Underscore
returns-in-Underscore c = search (told_underscore, rules)

pub returns-in-InputOrData : goal.returns-in-InputOrData
returns-in-InputOrData c = search (told_reserved, rules)

pub returns-in-Ordinary : goal.returns-in-Ordinary
returns-in-Ordinary c = search (told_ordinary, rules)
