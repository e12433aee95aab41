use Rattle.common_example.proofs.loops.classes.RoundLoops.{rounding_start, rounding_fits, rounding_meet, rounding_on, rounding_fails, rounding_ends}
use borrow.Author.Rules.{rules}
use Rattle.common_example.proofs.classes.join_round.Goals as goal

pub loop-left-init : goal.loop-left-init
loop-left-init c = search (rounding_start, rules)

pub overflow_add-left : goal.overflow_add-left
overflow_add-left c = search (rounding_fits, rules)

pub meet_class-requires : goal.meet_class-requires
meet_class-requires c = search (rounding_meet, rules)

pub returns-then-not-meet_class : goal.returns-then-not-meet_class
returns-then-not-meet_class c = search (rounding_fails, rules)

pub loop-left-preserved : goal.loop-left-preserved
loop-left-preserved c = search (rounding_on, rules)

pub returns : goal.returns
returns c = search (rounding_ends, rules)
