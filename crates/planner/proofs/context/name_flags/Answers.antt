use Rattle.planner.proofs.laws.States.{flagging_start, flagging_on, flags_stop, flags_end}
use borrow.Author.Rules.{rules}
use Rattle.planner.proofs.context.name_flags.Goals as goal

pub loop-i-init : goal.loop-i-init
loop-i-init c = search (flagging_start, rules)

pub returns-then-names-i : goal.returns-then-names-i
returns-then-names-i c = search (flags_stop, rules)

pub loop-i-preserved : goal.loop-i-preserved
loop-i-preserved c = search (flagging_on, rules)

pub returns : goal.returns
returns c = search (flags_end, rules)
