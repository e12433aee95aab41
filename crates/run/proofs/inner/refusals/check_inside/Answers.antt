use Rattle.run.proofs.Refusing.{ask_simple, ask_all, not_simple, ask_known, no_value, unlisted, all_pass}
use borrow.Author.Rules.{rules}
use Rattle.run.proofs.inner.refusals.check_inside.Goals as goal

pub is_simple-requires : goal.is_simple-requires
is_simple-requires c = search (ask_simple, rules)

pub returns-then-not-is_simple : goal.returns-then-not-is_simple
returns-then-not-is_simple c = search (not_simple, rules)

pub all_values-requires : goal.all_values-requires
all_values-requires c = search (ask_all, rules)

pub returns-then-not-all_values : goal.returns-then-not-all_values
returns-then-not-all_values c = search (no_value, rules)

pub known_listed-requires : goal.known_listed-requires
known_listed-requires c = ask_known _ _ _ _ _ c.requires c.is_simple.ensures c.if-not-is_simple.false-raw

pub returns-then-not-known_listed : goal.returns-then-not-known_listed
returns-then-not-known_listed c = search (unlisted, rules)

pub returns : goal.returns
returns c = search (all_pass, rules)
