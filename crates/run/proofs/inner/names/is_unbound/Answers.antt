use Rattle.run.proofs.Valued.{unbound_reply}
use borrow.Author.Rules.{rules}
use Rattle.run.proofs.inner.names.is_unbound.Goals as goal

pub returns : goal.returns
returns c = search (unbound_reply, rules)
