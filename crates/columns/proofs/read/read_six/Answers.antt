use Rattle.columns.proofs.read.Six.{six_number, six_small, six_none}
use borrow.Author.Rules.{rules}
use Rattle.columns.proofs.read.read_six.Goals as goal

pub overflow_cast-result : goal.overflow_cast-result
overflow_cast-result c = search (six_small, rules)

pub returns : goal.returns
returns c = search (six_number, rules)

pub returns-in_err-n : goal.returns-in_err-n
returns-in_err-n c = search (six_none, rules)
