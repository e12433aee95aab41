use Rattle.name_table.proofs.Cases.{allowed_none, allowed_long, allowed_inside}
use borrow.Author.Rules.{rules}
use Rattle.name_table.proofs.is_allowed.Goals as goal

pub returns-then-size-lt1 : goal.returns-then-size-lt1
returns-then-size-lt1 c = search (allowed_none, rules)

pub returns-then-size-gt255 : goal.returns-then-size-gt255
returns-then-size-gt255 c = search (allowed_long, rules)

pub returns : goal.returns
returns c = search (allowed_inside, rules)
