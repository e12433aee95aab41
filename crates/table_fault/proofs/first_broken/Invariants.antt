use Rattle.table.specs.Contents.{contents}
use Rattle.table_fault.proofs.Walking.{Looking}
use Rattle.table_fault.proofs.first_broken.Given as goal

abbrev pub invariant-loop-place : goal.invariant-loop-place
invariant-loop-place l = Looking (contents l.tables) l.marks l.rule l.first l.end l.place
