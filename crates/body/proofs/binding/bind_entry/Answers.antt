use Rattle.body.proofs.PlanLoops.{binds_none, binds_name}
use borrow.Author.Rules.{rules}
use Rattle.body.proofs.binding.bind_entry.Goals as goal

pub returns-then-kind-ne-BIND : goal.returns-then-kind-ne-BIND
returns-then-kind-ne-BIND c = search (binds_none, rules)

pub returns : goal.returns
returns c = search (binds_name, rules)
