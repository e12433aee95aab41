use Rattle.scope.proofs.Words.{double_fits, bit_fits, no_word}
use Rattle.scope.proofs.Words.{packing_start, packing_on, packing_ends}
use borrow.Author.Rules.{rules}
use Rattle.scope.proofs.bytes.mark_word.Goals as goal

pub returns-then-none_marked : goal.returns-then-none_marked
returns-then-none_marked c = search (no_word, rules)

pub loop-left-init : goal.loop-left-init
loop-left-init c = search (packing_start, rules)

pub overflow_mul-word : goal.overflow_mul-word
overflow_mul-word c = search (double_fits, rules)

pub overflow_add-word : goal.overflow_add-word
overflow_add-word c = search (bit_fits, rules)

pub loop-left-preserved : goal.loop-left-preserved
loop-left-preserved c = search (packing_on, rules)

pub returns : goal.returns
returns c = search (packing_ends, rules)
