use Rattle.scope.proofs.Cases.{name_low, name_high, name_between}
use borrow.Author.Rules.{rules}
use Rattle.scope.proofs.name_set.is_name.Goals as goal

pub returns-then-name-lt1 : goal.returns-then-name-lt1
returns-then-name-lt1 c = search (name_low, rules)

pub returns-then-name-gt128 : goal.returns-then-name-gt128
returns-then-name-gt128 c = search (name_high, rules)

pub returns : goal.returns
returns c = search (name_between, rules)
