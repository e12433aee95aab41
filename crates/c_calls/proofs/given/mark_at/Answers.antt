use lib.ListN.{get_or-eq_default}
use borrow.Author.Rules.{rules}
use Rattle.c_calls.proofs.given.mark_at.Goals as goal

pub returns : goal.returns
returns c = search (get_or-eq_default, rules)
