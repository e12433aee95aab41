use Rattle.first_miss.proofs.nodes.KeyLaws.{lesser_there, lesser_first, lesser_less, lesser_kept}
use borrow.Author.Rules.{rules}
use Rattle.first_miss.proofs.keys.lesser_missing.Goals as goal

pub returns-then-is_some : goal.returns-then-is_some
returns-then-is_some c = search (lesser_there, rules)

pub returns-in_default : goal.returns-in_default
returns-in_default c = search (lesser_first, rules)

pub returns-then-comes_before : goal.returns-then-comes_before
returns-then-comes_before c = search (lesser_less, rules)

pub returns : goal.returns
returns c = search (lesser_kept, rules)
