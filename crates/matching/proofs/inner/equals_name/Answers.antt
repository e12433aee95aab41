use Rattle.matching.proofs.Entries.{compare_values, compare_told}
use borrow.Author.Rules.{rules}
use Rattle.matching.proofs.inner.equals_name.Goals as goal

pub same_value-requires : goal.same_value-requires
same_value-requires c = search (compare_values, rules)

pub returns : goal.returns
returns c = search (compare_told, rules)
