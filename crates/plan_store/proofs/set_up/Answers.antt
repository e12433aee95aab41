use Rattle.plan_store.proofs.Cases.{set_sized, set_shares, set_asks, set_done}
use borrow.Author.Rules.{rules}
use Rattle.plan_store.proofs.set_up.Goals as goal

pub returns-then-store-ne-STORE_WORDS : goal.returns-then-store-ne-STORE_WORDS
returns-then-store-ne-STORE_WORDS c = search (set_sized, rules)

pub returns-then-not-shares_ok : goal.returns-then-not-shares_ok
returns-then-not-shares_ok c = search (set_shares, rules)

pub write_head-requires : goal.write_head-requires
write_head-requires c = search (set_asks, rules)

pub returns : goal.returns
returns c = search (set_done, rules)
