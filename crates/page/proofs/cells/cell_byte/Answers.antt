use Rattle.page.proofs.CellBytes.{byte_blank, byte_whole, byte_cut, byte_before_cut}
use borrow.Author.Rules.{rules}
use Rattle.page.proofs.cells.cell_byte.Goals as goal

pub returns-then-text-i : goal.returns-then-text-i
returns-then-text-i c = search (byte_blank, rules)

pub returns-then-text-width : goal.returns-then-text-width
returns-then-text-width c = search (byte_whole, rules)

pub returns-then-i-width : goal.returns-then-i-width
returns-then-i-width c = search (byte_cut, rules)

pub returns : goal.returns
returns c = search (byte_before_cut, rules)
