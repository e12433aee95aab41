use Rattle.plan_store.proofs.rows.Keeping.{insert_copy, insert_done}
use borrow.Author.Rules.{rules}
use Rattle.plan_store.proofs.rows.insert_words.Goals as goal

pub move_up-requires : goal.move_up-requires
move_up-requires c = (search rules, search rules)

pub copy_in-requires : goal.copy_in-requires
copy_in-requires c = (search (insert_copy, rules), search rules)

pub returns : goal.returns
returns c = search (insert_done, rules)
