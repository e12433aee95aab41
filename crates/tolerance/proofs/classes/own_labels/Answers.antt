use native.Mathlib.Omega.{arith}
use borrow.Author.Rules.{rules}
use Rattle.tolerance.proofs.nodes.Beginning.{own_labels_ok}
use Rattle.tolerance.proofs.classes.own_labels.Goals as goal

pub returns : goal.returns
returns c = own_labels_ok c.from_fn.ensures.items.long (λ n le. let called = c.from_fn.ensures.items.at n 0 (omega arith) in search (called.2, rules))
