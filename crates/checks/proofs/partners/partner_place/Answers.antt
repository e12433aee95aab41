use Rattle.checks.proofs.PatternObjects.{place_computed, place_find, place_or}
use borrow.Author.Rules.{rules}
use Rattle.checks.proofs.partners.partner_place.Goals as goal

pub returns-in_default : goal.returns-in_default
returns-in_default c = search (place_computed, rules)

pub find_field-requires : goal.find_field-requires
find_field-requires c = search (place_find, rules)

pub returns : goal.returns
returns c = search (place_or, rules)
