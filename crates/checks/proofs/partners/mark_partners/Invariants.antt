use Rattle.table.specs.Contents.{contents}
use Rattle.checks.proofs.ObjectFields.{Marking}
use Rattle.checks.proofs.partners.mark_partners.Given as goal

abbrev pub invariant-loop-i : goal.invariant-loop-i
invariant-loop-i l = Marking (contents l.tables) l.pattern l.value l.order l.literals l.total l.first l.count l.marks l.i
