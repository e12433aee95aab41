use Rattle.table.specs.Contents.{contents}
use Rattle.tolerance.proofs.nodes.RangeTests.{Giving}
use Rattle.tolerance.proofs.ranges.names_ok.Given as goal

abbrev pub invariant-loop-i : goal.invariant-loop-i
invariant-loop-i l = Giving (contents l.tables) l.ranges.lowest.now l.ranges.highest.now l.list l.i
