use Rattle.matching.proofs.Entries.{name_set}
use borrow.Author.Rules.{rules}
use Rattle.matching.proofs.inner.bind_name.Goals as goal

pub returns : goal.returns
returns c = search (name_set, rules)
