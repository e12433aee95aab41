use Rattle.planner.proofs.fields.FieldLoops.{compared_keys}
use borrow.Author.Rules.{rules}
use Rattle.planner.proofs.inner.fields.compare_keys.Goals as goal

pub returns : goal.returns
returns c = search (compared_keys, rules)
