use Rattle.c_calls.proofs.Rows.{given_fits, given_told}
use borrow.Author.Rules.{rules}
use Rattle.c_calls.proofs.answer.refuse.Goals as goal

pub tell-requires : goal.tell-requires
tell-requires c = search (given_fits, rules)

pub returns : goal.returns
returns c = search (given_told, rules)
