use lib.Seq.{lt-length-set}
use Rattle.planner.proofs.buffer.Copies.{word_2, word_3, word_4, word_5, wrote_in, wrote_out}
use borrow.Author.Rules.{rules}
use Rattle.planner.proofs.buffer.put_entry.Goals as goal

pub bounds-plan-base-then-at-plan : goal.bounds-plan-base-then-at-plan
bounds-plan-base-then-at-plan c = search (lt-length-set, word_2, rules)

pub bounds-plan-base-then-at-plan-2 : goal.bounds-plan-base-then-at-plan-2
bounds-plan-base-then-at-plan-2 c = search (lt-length-set, word_3, rules)

pub bounds-plan-base-then-at-plan-3 : goal.bounds-plan-base-then-at-plan-3
bounds-plan-base-then-at-plan-3 c = search (lt-length-set, word_4, rules)

pub bounds-plan-base-then-at-plan-4 : goal.bounds-plan-base-then-at-plan-4
bounds-plan-base-then-at-plan-4 c = search (lt-length-set, word_5, rules)

pub returns-then-at-plan : goal.returns-then-at-plan
returns-then-at-plan c = search (wrote_in, rules)

pub returns-else-at-plan : goal.returns-else-at-plan
returns-else-at-plan c = search (wrote_out, rules)
