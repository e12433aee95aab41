use Rattle.scope.proofs.Cases.{conversion_refused, conversion_done}
use borrow.Author.Rules.{rules}
use Rattle.scope.proofs.ScopeTryFromByteScope.try_from.Goals as goal

pub returns-then-not-marks_ok : goal.returns-then-not-marks_ok
returns-then-not-marks_ok c = search (conversion_refused, rules)

pub returns : goal.returns
returns c = search (conversion_done, rules)
