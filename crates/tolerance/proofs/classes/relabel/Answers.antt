use Rattle.tolerance.proofs.nodes.Joining.{relabelling_start, relabelling_on, relabelling_ends}
use native.Mathlib.Omega.{arith}
use borrow.Author.Rules.{rules}
use Rattle.tolerance.proofs.classes.relabel.Goals as goal

pub loop-label-init : goal.loop-label-init
loop-label-init c = search (relabelling_start, rules)

pub loop-label-preserved : goal.loop-label-preserved
loop-label-preserved c = search (relabelling_on, rules)

pub returns : goal.returns
returns c = relabelling_ends c.loop-label.invariant (omega arith)
