use Rattle.c_calls.proofs.Tolerated.{tolerance_is, tolerance_run}
use borrow.Author.Rules.{rules}
use Rattle.c_calls.proofs.answer.tolerance_row.Goals as goal

pub returns-in-Ok-Always : goal.returns-in-Ok-Always
returns-in-Ok-Always c = search (tolerance_is, rules)

pub returns-in-Ok-Sometimes : goal.returns-in-Ok-Sometimes
returns-in-Ok-Sometimes c = search (tolerance_is, rules)

pub returns-in-Ok-Never : goal.returns-in-Ok-Never
returns-in-Ok-Never c = search (tolerance_is, rules)

pub returns-in-Err-RangeWrong : goal.returns-in-Err-RangeWrong
returns-in-Err-RangeWrong c = search (tolerance_is, rules)

pub returns-in-Err-Run : goal.returns-in-Err-Run
returns-in-Err-Run c = search (tolerance_run, rules)
