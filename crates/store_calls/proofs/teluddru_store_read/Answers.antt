use Rattle.store_calls.proofs.Told.{read_told}
use borrow.Author.Rules.{rules}
use Rattle.store_calls.proofs.teluddru_store_read.Goals as goal

pub returns : goal.returns
returns c = search (read_told, rules)
