use Rattle.columns.proofs.read.Reading.{skip_start}
use Rattle.columns.proofs.read.Six.{fours_on, fours_rest}
use borrow.Author.Rules.{rules}
use Rattle.columns.proofs.read.after_fours.Goals as goal

pub loop-i-init : goal.loop-i-init
loop-i-init c = search (skip_start, rules)

pub returns-then-not-are_blank : goal.returns-then-not-are_blank
returns-then-not-are_blank c = search (fours_rest, rules)

pub loop-i-preserved : goal.loop-i-preserved
loop-i-preserved c = search (fours_on, rules)

pub returns : goal.returns
returns c = search (fours_rest, rules)
