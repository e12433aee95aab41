use Rattle.store_calls.proofs.Told.{set_up_told}
use borrow.Author.Rules.{rules}
use Rattle.store_calls.proofs.teluddru_store_set_up.Goals as goal

pub returns : goal.returns
returns c = search (set_up_told, rules)
