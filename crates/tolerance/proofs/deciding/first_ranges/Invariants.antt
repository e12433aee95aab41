use Rattle.tolerance.proofs.nodes.Beginning.{Ranging}
use Rattle.tolerance.proofs.deciding.first_ranges.Given as goal

abbrev pub invariant-loop-n : goal.invariant-loop-n
invariant-loop-n l = Ranging l.ranges.lowest.now l.ranges.highest.now l.first l.n
