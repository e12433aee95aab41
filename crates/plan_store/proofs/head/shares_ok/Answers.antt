use Rattle.plan_store.proofs.head.Passes.{sharing_start, shares_many, sharing_on, sharing_fails, sharing_ends}
use borrow.Author.Rules.{rules}
use Rattle.plan_store.proofs.head.shares_ok.Goals as goal

pub returns-then-shares-gt-MOST_PACKS : goal.returns-then-shares-gt-MOST_PACKS
returns-then-shares-gt-MOST_PACKS c = search (shares_many, rules)

pub loop-share-init : goal.loop-share-init
loop-share-init c = search (sharing_start, rules)

pub returns-then-left-share : goal.returns-then-left-share
returns-then-left-share c = search (sharing_fails, rules)

pub loop-share-preserved : goal.loop-share-preserved
loop-share-preserved c = search (sharing_on, rules)

pub returns : goal.returns
returns c = search (sharing_ends, rules)
