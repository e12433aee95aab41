use Rattle.table.specs.Contents.{contents}
use Rattle.first_miss.proofs.nodes.KeyLaws.{Leasting}
use Rattle.first_miss.proofs.keys.missing_key.Given as goal

abbrev pub invariant-loop-left : goal.invariant-loop-left
invariant-loop-left l = Leasting (contents l.tables) l.a l.b l.first l.left l.least
