use Rattle.table.specs.Contents.{contents}
use Rattle.value.proofs.Under.{Covering}
use Rattle.value.proofs.inner.fields.same_key_sets.Given as goal

abbrev pub invariant-loop-i : goal.invariant-loop-i
invariant-loop-i l = Covering (contents l.tables) l.a l.b l.first l.count l.i
