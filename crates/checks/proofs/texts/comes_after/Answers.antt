use Rattle.checks.proofs.TextLoops.{after_greater, after_less, after_equal, after_none}
use borrow.Author.Rules.{rules}
use Rattle.checks.proofs.texts.comes_after.Goals as goal

pub returns-in-Greater : goal.returns-in-Greater
returns-in-Greater c = search (after_greater, rules)

pub returns-in-Less : goal.returns-in-Less
returns-in-Less c = search (after_less, rules)

pub returns-in-Equal : goal.returns-in-Equal
returns-in-Equal c = search (after_equal, rules)

pub returns-in-NoLiteral : goal.returns-in-NoLiteral
returns-in-NoLiteral c = search (after_none, rules)
