use Rattle.common_example.proofs.loops.classes.RoundLoops.{ClosingLoop}
use Prim.Native.Nat.{◌-◌}
use Rattle.common_example.proofs.classes.close_classes.Given as goal

abbrev pub invariant-loop-round : goal.invariant-loop-round
invariant-loop-round l = ClosingLoop l.graph.heads l.graph.links l.initial.classes (2049 - l._round) l.before l.classes
