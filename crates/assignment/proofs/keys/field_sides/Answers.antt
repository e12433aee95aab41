use Rattle.assignment.proofs.keys.KeyLoops.{field_find, field_told}
use borrow.Author.Rules.{rules}
use Rattle.assignment.proofs.keys.field_sides.Goals as goal

pub find_value-other-requires : goal.find_value-other-requires
find_value-other-requires c = search (field_find, rules)

pub returns : goal.returns
returns c = search (field_told, rules)
