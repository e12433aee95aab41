use Rattle.run.proofs.Running.{ask_list, ask_match, values_missed, values_matched}
use borrow.Author.Rules.{rules}
use Rattle.run.proofs.match_values.Goals as goal

pub start_list-start-requires : goal.start_list-start-requires
start_list-start-requires c = search (ask_list, rules)

pub match_pattern-requires : goal.match_pattern-requires
match_pattern-requires c = search (ask_match, rules)

pub returns-in-Err : goal.returns-in-Err
returns-in-Err c = search (values_missed, rules)

pub set_names-requires : goal.set_names-requires
set_names-requires c = search (ask_list, rules)

pub returns-in-Ok : goal.returns-in-Ok
returns-in-Ok c = search (values_matched, rules)
