use Rattle.table.specs.Contents.{contents}
use Rattle.first_miss.proofs.nodes.KeyLaws.{Seeking}
use Rattle.first_miss.proofs.keys.other_key.Given as goal

abbrev pub invariant-loop-i : goal.invariant-loop-i
invariant-loop-i l = Seeking (contents l.tables) l.a l.b l.first l.count l.i
