use Rattle.base.proofs.Filling.{filling_start, filling_on}
use Rattle.scope.proofs.Cases.{bytes_done}
use borrow.Author.Rules.{rules}
use Rattle.scope.proofs.ByteScopeFromScope.from.Goals as goal

pub loop-i-init : goal.loop-i-init
loop-i-init c = search (filling_start, rules)

pub loop-i-preserved : goal.loop-i-preserved
loop-i-preserved c = search (filling_on, rules)

pub returns : goal.returns
returns c = search (bytes_done, rules)
