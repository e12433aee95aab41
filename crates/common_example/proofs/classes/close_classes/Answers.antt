use Rattle.common_example.proofs.loops.classes.RoundLoops.{closing_start, closing_asks, closing_fails, closing_ok, closing_done, closing_on, closing_ends}
use Rattle.std.proofs.Common.{◌≡◌, ◌+◌, ◌-◌, arith}
use borrow.Author.Rules.{rules}
use Rattle.common_example.proofs.classes.close_classes.Goals as goal

pub loop-round-init : goal.loop-round-init
loop-round-init c = search (closing_start, rules)

pub join_round-requires : goal.join_round-requires
join_round-requires c = search (closing_asks, rules)

pub returns-then-not-join_round : goal.returns-then-not-join_round
returns-then-not-join_round c = closing_fails c.loop-round.invariant (omega arith) c.join_round.ensures (search rules)

pub count_classes-after-requires : goal.count_classes-after-requires
count_classes-after-requires c = search (closing_ok, rules)

pub returns-then-after-before : goal.returns-then-after-before
returns-then-after-before c = closing_done c.loop-round.invariant (omega arith) c.join_round.ensures (search rules) c.count_classes-after.ensures (search rules)

pub loop-round-preserved : goal.loop-round-preserved
loop-round-preserved c = let e : 2049 - (c.loop-round._round + 1) ≡ 2049 - c.loop-round._round - 1 = omega arith in
    rw e (closing_on c.loop-round.invariant (omega arith) c.join_round.ensures (search rules) c.count_classes-after.ensures (search rules))

pub returns : goal.returns
returns c = closing_ends c.loop-round.invariant (omega arith)
