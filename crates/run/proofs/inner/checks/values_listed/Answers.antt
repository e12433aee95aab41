use Rattle.run.proofs.Checking.{listing_start, listing_inside, listing_on, listing_fails, listing_ends}
use borrow.Author.Rules.{rules}
use Rattle.run.proofs.inner.checks.values_listed.Goals as goal

pub loop-i-init : goal.loop-i-init
loop-i-init c = search (listing_start, rules)

pub bounds-values-i : goal.bounds-values-i
bounds-values-i c = search (listing_inside, rules)

pub returns-then-not-is_listed_value : goal.returns-then-not-is_listed_value
returns-then-not-is_listed_value c = search (listing_fails, rules)

pub loop-i-preserved : goal.loop-i-preserved
loop-i-preserved c = search (listing_on, rules)

pub returns : goal.returns
returns c = search (listing_ends, rules)
