use Rattle.store_calls.proofs.Told.{empty_told}
use borrow.Author.Rules.{rules}
use Rattle.store_calls.proofs.teluddru_store_empty.Goals as goal

pub returns : goal.returns
returns c = search (empty_told, rules)
