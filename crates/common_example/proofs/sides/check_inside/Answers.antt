use Rattle.common_example.proofs.loops.SideChecks.{ask_simple, not_simple, ask_known, values_end}
use borrow.Author.Rules.{rules}
use Rattle.common_example.proofs.sides.check_inside.Goals as goal

pub is_simple-requires : goal.is_simple-requires
is_simple-requires c = search (ask_simple, rules)

pub returns-then-not-is_simple : goal.returns-then-not-is_simple
returns-then-not-is_simple c = search (not_simple, rules)

pub check_values-requires : goal.check_values-requires
check_values-requires c = search (ask_known, rules)

pub returns : goal.returns
returns c = search (values_end, rules)
