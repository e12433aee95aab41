use Rattle.columns.proofs.read.Six.{column_found}
use borrow.Author.Rules.{rules}
use Rattle.columns.proofs.read.read_column.Goals as goal

pub returns : goal.returns
returns c = search (column_found, rules)
