use Rattle.tolerance.proofs.nodes.RangeTests.{giving_start, giving_ask, giving_fails, giving_on, giving_ends}
use borrow.Author.Rules.{rules}
use Rattle.tolerance.proofs.ranges.names_ok.Goals as goal

pub loop-i-init : goal.loop-i-init
loop-i-init c = search (giving_start, rules)

pub listed_ok-requires : goal.listed_ok-requires
listed_ok-requires c = search (giving_ask, rules)

pub returns-then-not-listed_ok : goal.returns-then-not-listed_ok
returns-then-not-listed_ok c = search (giving_fails, rules)

pub loop-i-preserved : goal.loop-i-preserved
loop-i-preserved c = search (giving_on, rules)

pub returns : goal.returns
returns c = search (giving_ends, rules)
