use Rattle.literal.proofs.Keys.{string_held, string_missing}
use borrow.Author.Rules.{rules}
use Rattle.literal.proofs.key.string_key.Goals as goal

pub returns-then-has_range : goal.returns-then-has_range
returns-then-has_range c = search (string_held, rules)

pub returns : goal.returns
returns c = search (string_missing, rules)
