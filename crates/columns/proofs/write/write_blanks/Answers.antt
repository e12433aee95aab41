use Rattle.columns.proofs.write.Writing.{blanks_written}
use borrow.Author.Rules.{rules}
use Rattle.columns.proofs.write.write_blanks.Goals as goal

pub returns : goal.returns
returns c = search (blanks_written, rules)
