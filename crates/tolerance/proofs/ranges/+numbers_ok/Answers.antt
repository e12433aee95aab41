use Rattle.tolerance.proofs.nodes.RangeTests.{number_met, literal_met_lem, first_low, first_fits, ranging_start, ranging_times, ranging_place, ranging_ask, ranging_falls, ranging_fails, ranging_on, ranging_ends}
use borrow.Author.Rules.{rules}
use Rattle.tolerance.proofs.ranges.+numbers_ok.Goals as goal

pub returns-then-kind-eq-NUMBER : goal.returns-then-kind-eq-NUMBER
returns-then-kind-eq-NUMBER t c = search (number_met, rules)

pub returns-then-kind-le-LAST_LITERAL : goal.returns-then-kind-le-LAST_LITERAL
returns-then-kind-le-LAST_LITERAL t c = search (literal_met_lem, rules)

pub overflow_add-first : goal.overflow_add-first
overflow_add-first t c = search (first_fits, rules)

pub overflow_sub-first : goal.overflow_sub-first
overflow_sub-first t c = search (first_low, rules)

pub loop-i-init : goal.loop-i-init
loop-i-init t c = search (ranging_start, rules)

pub overflow_mul-i : goal.overflow_mul-i
overflow_mul-i t c = search (ranging_times, rules)

pub overflow_add-first-in-loop-i : goal.overflow_add-first-in-loop-i
overflow_add-first-in-loop-i t c = search (ranging_place, rules)

pub numbers_ok-requires : goal.numbers_ok-requires
numbers_ok-requires t c = (search (ranging_falls, rules), search (ranging_ask, rules))

pub returns-then-not-numbers_ok : goal.returns-then-not-numbers_ok
returns-then-not-numbers_ok t c = search (ranging_fails, rules)

pub loop-i-preserved : goal.loop-i-preserved
loop-i-preserved t c = search (ranging_on, rules)

pub returns : goal.returns
returns t c = search (ranging_ends, rules)
