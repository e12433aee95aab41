use Rattle.tolerance.proofs.nodes.Joining.{free_ends, free_own, free_single}
use borrow.Author.Rules.{rules}
use Rattle.tolerance.proofs.classes.Classes.is_free.Goals as goal

pub returns-then-not-same : goal.returns-then-not-same
returns-then-not-same c = search (free_ends, rules)

pub returns-then-label-node : goal.returns-then-label-node
returns-then-label-node c = search (free_own, rules)

pub returns : goal.returns
returns c = search (free_single, rules)
