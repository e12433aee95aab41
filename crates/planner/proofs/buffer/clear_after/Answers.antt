use Rattle.planner.proofs.buffer.Filling.{filling_next, filling_ends, word_out}
use Rattle.planner.proofs.buffer.Copies.{clearing_start}
use native.Mathlib.Omega.{arith}
use borrow.Author.Rules.{rules}
use Rattle.planner.proofs.buffer.clear_after.Goals as goal

pub loop-i-init : goal.loop-i-init
loop-i-init c = search (clearing_start, rules)

pub loop-i-preserved : goal.loop-i-preserved
loop-i-preserved c = search (filling_next, word_out, rules)

pub returns : goal.returns
returns c = let long = c.loop-i.invariant.0.long in filling_ends c.loop-i.invariant.0 (omega arith)
