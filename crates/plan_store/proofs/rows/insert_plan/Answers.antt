use Rattle.plan_store.proofs.rows.Keeping.{put_some, put_among, put_all, put_asks, put_done}
use borrow.Author.Rules.{rules}
use Rattle.plan_store.proofs.rows.insert_plan.Goals as goal

pub bounds-store-0 : goal.bounds-store-0
bounds-store-0 c = search (put_some, rules)

pub entries_end-at-requires : goal.entries_end-at-requires
entries_end-at-requires c = search (put_among, rules)

pub entries_end-end-requires : goal.entries_end-end-requires
entries_end-end-requires c = search (put_all, rules)

pub insert_words-requires : goal.insert_words-requires
insert_words-requires c = search (put_asks, rules)

pub returns : goal.returns
returns c = search (put_done, rules)
