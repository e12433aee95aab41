use Rattle.common_example.proofs.loops.sizes.SizeLoops.{levelling_start, level_class, level_size_lem, level_narrow, levelling_on, levelling_ends}
use borrow.Author.Rules.{rules}
use Rattle.common_example.proofs.levels.next_sizes.Goals as goal

pub loop-place-init : goal.loop-place-init
loop-place-init c = search (levelling_start, rules)

pub class_of-class-requires : goal.class_of-class-requires
class_of-class-requires c = search (level_class, rules)

pub place_size-requires : goal.place_size-requires
place_size-requires c = search (level_size_lem, rules)

pub overflow_cast-next : goal.overflow_cast-next
overflow_cast-next c = search (level_narrow, rules)

pub loop-place-preserved : goal.loop-place-preserved
loop-place-preserved c = search (levelling_on, rules)

pub returns : goal.returns
returns c = search (levelling_ends, rules)
