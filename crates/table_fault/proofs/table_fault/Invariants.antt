use Rattle.table.specs.Contents.{contents}
use Rattle.table_fault.proofs.Walking.{Walking}
use Rattle.table_fault.proofs.table_fault.Given as goal

abbrev pub invariant-loop-rule : goal.invariant-loop-rule
invariant-loop-rule l = Walking (contents l.tables) l.marks l.rule
