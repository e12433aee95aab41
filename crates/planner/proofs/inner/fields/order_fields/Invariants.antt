use Rattle.table.specs.Contents.{contents}
use Rattle.planner.proofs.fields.FieldLoops.{Arranging}
use Rattle.planner.proofs.inner.fields.order_fields.Given as goal

abbrev pub invariant-loop-i : goal.invariant-loop-i
invariant-loop-i l = Arranging (contents l.tables) l.first l.count l.i l.initial.order l.order l.sizes.literals l.sizes.total
