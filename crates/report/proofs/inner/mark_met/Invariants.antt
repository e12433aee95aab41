use lib.ListN.{length}
use Rattle.planner.proofs.buffer.Filling.{Filling}
use Rattle.report.specs.code.Post.{met_mark}
use Rattle.report.proofs.inner.mark_met.Given as goal

abbrev pub invariant-loop-i : goal.invariant-loop-i
invariant-loop-i l = Filling (met_mark l.met) (length l.initial.list) l.i l.list
