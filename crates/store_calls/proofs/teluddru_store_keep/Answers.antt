use Rattle.store_calls.proofs.Told.{keep_fits, keep_told}
use borrow.Author.Rules.{rules}
use Rattle.store_calls.proofs.teluddru_store_keep.Goals as goal

pub tell-requires : goal.tell-requires
tell-requires c = search (keep_fits, rules)

pub returns : goal.returns
returns c = search (keep_told, rules)
