use Rattle.plan_store.proofs.head.Passes.{room_told}
use borrow.Author.Rules.{rules}
use Rattle.plan_store.proofs.head.is_store.Goals as goal

pub returns : goal.returns
returns c = search (room_told, rules)
