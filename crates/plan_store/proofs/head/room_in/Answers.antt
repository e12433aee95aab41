use Rattle.plan_store.proofs.head.Passes.{room_sized, room_packs, leaving_start, leaving_on, leaving_fails, leaving_ends}
use borrow.Author.Rules.{rules}
use Rattle.plan_store.proofs.head.room_in.Goals as goal

pub returns-then-store-ne-STORE_WORDS : goal.returns-then-store-ne-STORE_WORDS
returns-then-store-ne-STORE_WORDS c = search (room_sized, rules)

pub returns-then-packs-gt-MOST_PACKS : goal.returns-then-packs-gt-MOST_PACKS
returns-then-packs-gt-MOST_PACKS c = search (room_packs, rules)

pub loop-i-init : goal.loop-i-init
loop-i-init c = search (leaving_start, rules)

pub returns-in_err-left : goal.returns-in_err-left
returns-in_err-left c = search (leaving_fails, rules)

pub loop-i-preserved : goal.loop-i-preserved
loop-i-preserved c = search (leaving_on, rules)

pub returns : goal.returns
returns c = search (leaving_ends, rules)
