use Rattle.tolerance.proofs.nodes.Joining.{joined_ok, joined_equals}
use borrow.Author.Rules.{rules}
use Rattle.tolerance.proofs.classes.Classes.fix.Goals as goal

pub invariant_of-self : goal.invariant_of-self
invariant_of-self c = search (joined_ok, rules)

pub returns : goal.returns
returns c = search (joined_equals, rules)
