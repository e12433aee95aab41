use Rattle.assignment.proofs.keys.KeyLoops.{testing_start, testing_twice, testing_key, testing_fails, testing_on, testing_ends}
use borrow.Author.Rules.{rules}
use Rattle.assignment.proofs.keys.literal_keys.Goals as goal

pub loop-i-init : goal.loop-i-init
loop-i-init c = search (testing_start, rules)

pub overflow_mul-i : goal.overflow_mul-i
overflow_mul-i c = search (testing_twice, rules)

pub overflow_add-first : goal.overflow_add-first
overflow_add-first c = search (testing_key, rules)

pub returns-then-kind_of-gt-LAST_LITERAL : goal.returns-then-kind_of-gt-LAST_LITERAL
returns-then-kind_of-gt-LAST_LITERAL c = search (testing_fails, rules)

pub loop-i-preserved : goal.loop-i-preserved
loop-i-preserved c = search (testing_on, rules)

pub returns : goal.returns
returns c = search (testing_ends, rules)
