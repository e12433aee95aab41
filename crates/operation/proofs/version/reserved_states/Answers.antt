use Rattle.planner.proofs.buffer.Filling.{filling_start}
use Rattle.operation.proofs.ReservedNames.{reserved_on, reserved_end}
use borrow.Author.Rules.{rules}
use Rattle.operation.proofs.version.reserved_states.Goals as goal

pub loop-i-init : goal.loop-i-init
loop-i-init c = search (filling_start, rules)

pub loop-i-preserved : goal.loop-i-preserved
loop-i-preserved c = search (reserved_on, rules)

pub returns : goal.returns
returns c = search (reserved_end, rules)
