use Rattle.table.specs.Contents.{contents}
use Rattle.table.specs.Decode.{literal_at}
use Rattle.common_example.proofs.loops.graph.LikeLoops.{Liking}
use Rattle.common_example.proofs.graph.likes.like_nodes.Given as goal

abbrev pub invariant-loop-i : goal.invariant-loop-i
invariant-loop-i l = Liking (literal_at (contents l.tables)) (contents l.tables).nodes l.count l.i l.like l.order l.literals
