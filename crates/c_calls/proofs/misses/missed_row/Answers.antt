use Rattle.c_calls.proofs.MissCalls.{missed_is}
use borrow.Author.Rules.{rules}
use Rattle.c_calls.proofs.misses.missed_row.Goals as goal

pub returns : goal.returns
returns c = search (missed_is, rules)
