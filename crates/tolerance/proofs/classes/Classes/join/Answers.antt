use Rattle.tolerance.proofs.nodes.Joining.{join_relabels, joined_ok, joined_alike}
use borrow.Author.Rules.{rules}
use Rattle.tolerance.proofs.classes.Classes.join.Goals as goal

pub relabel-requires : goal.relabel-requires
relabel-requires c = search (join_relabels, rules)

pub invariant_of-self : goal.invariant_of-self
invariant_of-self c = search (joined_ok, rules)

pub returns : goal.returns
returns c = search (joined_alike, rules)
