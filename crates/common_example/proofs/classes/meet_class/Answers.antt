use Rattle.common_example.proofs.loops.classes.MeetLoops.{class_free, own_free, other_kinds, heads_ask, heads_met}
use borrow.Author.Rules.{rules}
use Rattle.common_example.proofs.classes.meet_class.Goals as goal

pub returns-then-kind-eq-NOTHING : goal.returns-then-kind-eq-NOTHING
returns-then-kind-eq-NOTHING c = search (class_free, rules)

pub returns-then-own-eq-NOTHING : goal.returns-then-own-eq-NOTHING
returns-then-own-eq-NOTHING c = search (own_free, rules)

pub returns-then-own-kind : goal.returns-then-own-kind
returns-then-own-kind c = search (other_kinds, rules)

pub meet_heads-requires : goal.meet_heads-requires
meet_heads-requires c = search (heads_ask, rules)

pub returns : goal.returns
returns c = search (heads_met, rules)
