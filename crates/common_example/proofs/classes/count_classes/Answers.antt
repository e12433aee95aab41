use Rattle.common_example.proofs.loops.classes.RoundLoops.{counting_start, counting_class, counting_fits, counting_on, counting_ends}
use borrow.Author.Rules.{rules}
use Rattle.common_example.proofs.classes.count_classes.Goals as goal

pub loop-left-init : goal.loop-left-init
loop-left-init c = search (counting_start, rules)

pub class_of-requires : goal.class_of-requires
class_of-requires c = search (counting_class, rules)

pub overflow_add-total : goal.overflow_add-total
overflow_add-total c = search (counting_fits, rules)

pub loop-left-preserved : goal.loop-left-preserved
loop-left-preserved c = search (counting_on, rules)

pub returns : goal.returns
returns c = search (counting_ends, rules)
