use Rattle.table_fault.proofs.Tests.{first_zero, first_one}
use borrow.Author.Rules.{rules}
use Rattle.table_fault.proofs.places.first_place.Goals as goal

pub returns-then-rule-gt-LAST_WHOLE : goal.returns-then-rule-gt-LAST_WHOLE
returns-then-rule-gt-LAST_WHOLE c = search (first_one, rules)

pub returns : goal.returns
returns c = search (first_zero, rules)
