use Rattle.base.proofs.Moving.{moved_up}
use borrow.Author.Rules.{rules}
use Rattle.base.proofs.insertion.insert_at.Goals as goal

pub returns-then-total-order : goal.returns-then-total-order
returns-then-total-order g c = search (moved_up, rules)
