use Rattle.std.proofs.Common.{ap, not, arith}
use Rattle.table.proofs.tests.Answers.{answer_limit, answer_rules, ask_depths, answer_deep, few_names, answer_names, answer_sound}
use Rattle.table.proofs.tests.Bools.{told_yes}
use borrow.Author.Rules.{rules}
use Rattle.table.proofs.check.Goals as goal

pub returns-then-not-within_limits : goal.returns-then-not-within_limits
returns-then-not-within_limits c = search (answer_limit, rules)

pub follows_rules-requires : goal.follows_rules-requires
follows_rules-requires c = search (told_yes, rules)

pub returns-then-not-follows_rules : goal.returns-then-not-follows_rules
returns-then-not-follows_rules c = search (answer_rules, rules)

pub depths_ok-requires : goal.depths_ok-requires
depths_ok-requires c = (ask_depths _ _ _ _ _ _ _ c.within_limits.ensures (ap not c.if-not-within_limits.false) c.follows_rules.ensures (ap not c.if-not-follows_rules.false), omega arith)

pub returns-then-not-depths_ok : goal.returns-then-not-depths_ok
returns-then-not-depths_ok c = search (answer_deep, rules)

pub names_differ-requires : goal.names_differ-requires
names_differ-requires c = search (few_names, rules)

pub returns-then-not-names_differ : goal.returns-then-not-names_differ
returns-then-not-names_differ c = search (answer_names, rules)

pub returns : goal.returns
returns c = search (answer_sound, rules)
