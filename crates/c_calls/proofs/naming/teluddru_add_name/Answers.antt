use Rattle.c_calls.proofs.NamesTold.{name_fits, name_done}
use borrow.Author.Rules.{rules}
use Rattle.c_calls.proofs.naming.teluddru_add_name.Goals as goal

pub tell-requires : goal.tell-requires
tell-requires c = search (name_fits, rules)

pub returns : goal.returns
returns c = search (name_done, rules)
