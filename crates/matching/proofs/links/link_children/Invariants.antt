use Rattle.matching.proofs.reading.Chains.{Chaining}
use Rattle.matching.proofs.links.link_children.Given as goal

abbrev pub invariant-loop-i : goal.invariant-loop-i
invariant-loop-i l = Chaining l.scratch l.nexts l.initial.links l.at l.start l.count l._i l.links l.child
