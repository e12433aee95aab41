use Rattle.columns.proofs.read.Reading.{signed_number_lem, signed_none}
use borrow.Author.Rules.{rules}
use Rattle.columns.proofs.read.signed_number.Goals as goal

pub returns : goal.returns
returns c = search (signed_number_lem, rules)

pub returns-in_err-size : goal.returns-in_err-size
returns-in_err-size c = search (signed_none, rules)
