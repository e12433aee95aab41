use Rattle.c_calls.proofs.Tolerated.{tolerance_fits, tolerance_refused, tolerance_done}
use borrow.Author.Rules.{rules}
use Rattle.c_calls.proofs.tolerating.teluddru_run_with_tolerance.Goals as goal

pub returns-in-Err : goal.returns-in-Err
returns-in-Err c = search (tolerance_refused, rules)

pub tell-requires : goal.tell-requires
tell-requires c = search (tolerance_fits, rules)

pub returns : goal.returns
returns c = search (tolerance_done, rules)
