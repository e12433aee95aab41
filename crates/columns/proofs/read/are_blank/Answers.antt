use Rattle.columns.proofs.read.Six.{are-blank}
use borrow.Author.Rules.{rules}
use Rattle.columns.proofs.read.are_blank.Goals as goal

pub returns : goal.returns
returns c = search (are-blank, rules)
