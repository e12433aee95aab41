use Rattle.common_example.proofs.loops.classes.ClassLoop.{pair_same, pair_free, pair_known}
use borrow.Author.Rules.{rules}
use Rattle.common_example.proofs.classes.join_pair.Goals as goal

pub returns-then-first-second : goal.returns-then-first-second
returns-then-first-second c = search (pair_same, rules)

pub returns-then-kind_at-eq-NOTHING : goal.returns-then-kind_at-eq-NOTHING
returns-then-kind_at-eq-NOTHING c = search (pair_free, rules)

pub returns : goal.returns
returns c = search (pair_known, rules)
