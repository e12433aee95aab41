use Rattle.common_example.proofs.loops.SideChecks.{ask_listed, no_value, unlisted, all_pass}
use borrow.Author.Rules.{rules}
use Rattle.common_example.proofs.sides.check_values.Goals as goal

pub all_listed-requires : goal.all_listed-requires
all_listed-requires c = search (ask_listed, rules)

pub returns-then-not-all_listed : goal.returns-then-not-all_listed
returns-then-not-all_listed c = search (no_value, rules)

pub returns-then-not-known_listed : goal.returns-then-not-known_listed
returns-then-not-known_listed c = search (unlisted, rules)

pub returns : goal.returns
returns c = search (all_pass, rules)
