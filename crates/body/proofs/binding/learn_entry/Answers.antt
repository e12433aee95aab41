use Rattle.body.proofs.Learning.{learns_none, learns_name}
use borrow.Author.Rules.{rules}
use Rattle.body.proofs.binding.learn_entry.Goals as goal

pub returns-then-kind-eq-BIND : goal.returns-then-kind-eq-BIND
returns-then-kind-eq-BIND c = search (learns_name, rules)

pub returns-else-kind-eq-BIND : goal.returns-else-kind-eq-BIND
returns-else-kind-eq-BIND c = search (learns_none, rules)
