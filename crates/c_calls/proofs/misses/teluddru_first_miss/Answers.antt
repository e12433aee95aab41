use Rattle.c_calls.proofs.MissCalls.{miss_fits, miss_refused, miss_done}
use borrow.Author.Rules.{rules}
use Rattle.c_calls.proofs.misses.teluddru_first_miss.Goals as goal

pub returns-in-Err : goal.returns-in-Err
returns-in-Err c = search (miss_refused, rules)

pub tell-requires : goal.tell-requires
tell-requires c = search (miss_fits, rules)

pub returns : goal.returns
returns c = search (miss_done, rules)
