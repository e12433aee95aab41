use Rattle.page.proofs.CellBytes.{low_prints, high_prints, same_prints}
use borrow.Author.Rules.{rules}
use Rattle.page.proofs.cells.printed_byte.Goals as goal

pub returns-then-byte-lt32 : goal.returns-then-byte-lt32
returns-then-byte-lt32 c = search (low_prints, rules)

pub returns-then-byte-gt126 : goal.returns-then-byte-gt126
returns-then-byte-gt126 c = search (high_prints, rules)

pub returns : goal.returns
returns c = search (same_prints, rules)
