use Rattle.planner.proofs.buffer.Filling.{filling_begin, filling_next, filling_ends}
use native.Mathlib.Omega.{arith}
use borrow.Author.Rules.{rules}
use Rattle.report.proofs.inner.mark_met.Goals as goal

pub loop-i-init : goal.loop-i-init
loop-i-init c = search (filling_begin, rules)

pub loop-i-preserved : goal.loop-i-preserved
loop-i-preserved c = search (filling_next, rules)

pub returns : goal.returns
returns c = let long = c.loop-i.invariant.long in filling_ends c.loop-i.invariant (omega arith)
