use Rattle.body.proofs.Searching.{unknown_none, ask_names, unknown_found}
use borrow.Author.Rules.{rules}
use Rattle.body.proofs.ready.first_unknown.Goals as goal

pub returns-then-kind_of-le-LAST_LITERAL : goal.returns-then-kind_of-le-LAST_LITERAL
returns-then-kind_of-le-LAST_LITERAL c = search (unknown_none, rules)

pub first_name-requires : goal.first_name-requires
first_name-requires c = search (ask_names, rules)

pub returns : goal.returns
returns c = search (unknown_found, rules)
