use Rattle.plan_store.proofs.Cases.{empty_refused, empty_asks, empty_done}
use borrow.Author.Rules.{rules}
use Rattle.plan_store.proofs.empty.Goals as goal

pub returns-then-not-is_store : goal.returns-then-not-is_store
returns-then-not-is_store c = search (empty_refused, rules)

pub clear_used-requires : goal.clear_used-requires
clear_used-requires c = search (empty_asks, rules)

pub returns : goal.returns
returns c = search (empty_done, rules)
