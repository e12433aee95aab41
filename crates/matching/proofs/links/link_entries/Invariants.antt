use Rattle.matching.proofs.reading.Chains.{Linking}
use Rattle.matching.proofs.links.link_entries.Given as goal

abbrev pub invariant-loop-at : goal.invariant-loop-at
invariant-loop-at l = Linking l.scratch l.count l.at l.nexts l.starts l.entries l.free
