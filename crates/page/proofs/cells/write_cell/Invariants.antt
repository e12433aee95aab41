use Rattle.page.specs.Page.{cell}
use Rattle.page.proofs.CellBytes.{Storing}
use Rattle.page.proofs.cells.write_cell.Given as goal

abbrev pub invariant-loop-i : goal.invariant-loop-i
invariant-loop-i l = Storing l.initial.out l.at (cell l.width l.text) l.width l.i l.out
