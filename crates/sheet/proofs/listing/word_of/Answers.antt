use native.Mathlib.Omega.{arith}
use Rattle.sheet.proofs.laws.ListingLines.{word_past}
use borrow.Author.Rules.{rules}
use Rattle.sheet.proofs.listing.word_of.Goals as goal

pub overflow_cast-result : goal.overflow_cast-result
overflow_cast-result c = omega (arith, c.shared_slice_known-1.given c.args.i)

pub returns : goal.returns
returns c = search (word_past, rules)
