use Rattle.page.proofs.CellBytes.{cell_start, storing_on, storing_ends}
use borrow.Author.Rules.{rules}
use Rattle.page.proofs.cells.write_cell.Goals as goal

pub loop-i-init : goal.loop-i-init
loop-i-init c = search (cell_start, rules)

pub loop-i-preserved : goal.loop-i-preserved
loop-i-preserved c = search (storing_on, rules)

pub returns : goal.returns
returns c = search (storing_ends, rules)
