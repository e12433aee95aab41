use Rattle.table.specs.Contents.{contents}
use Rattle.checks.proofs.TextLoops.{SortingOrdered}
use Rattle.checks.proofs.texts.sort_ordered.Given as goal

abbrev pub invariant-loop-q : goal.invariant-loop-q
invariant-loop-q l = SortingOrdered (contents l.tables) l.first l.order l.total l.initial.keys l.keys l.size l.q
