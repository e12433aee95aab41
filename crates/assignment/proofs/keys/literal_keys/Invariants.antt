use Rattle.assignment.proofs.keys.KeyLoops.{Testing}
use Rattle.assignment.proofs.keys.literal_keys.Given as goal

abbrev pub invariant-loop-i : goal.invariant-loop-i
invariant-loop-i l = Testing l.nodes l.children l.node l.first l.count l.i
