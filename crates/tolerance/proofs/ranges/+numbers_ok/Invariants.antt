use Rattle.table.specs.Contents.{contents}
use Rattle.tolerance.proofs.nodes.RangeTests.{Ranging}
use Prim.Native.Nat.{◌-◌}
use Rattle.tolerance.proofs.ranges.+numbers_ok.Given as goal

abbrev pub decreases-numbers_ok : goal.decreases-numbers_ok
decreases-numbers_ok l = l.node

abbrev pub invariant-loop-i : goal.invariant-loop-i
invariant-loop-i l = Ranging (contents l.tables) l.ranges.lowest.now l.ranges.highest.now l.node l.first l.step l.count l.i

abbrev pub decreases-loop-i : goal.decreases-loop-i
decreases-loop-i l = l.count - l.i
