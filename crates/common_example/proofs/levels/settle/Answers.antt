use Rattle.common_example.proofs.loops.sizes.SizeLoops.{settling_start, settling_level, settling_on, settling_stops, settling_ends}
use borrow.Author.Rules.{rules}
use Rattle.common_example.proofs.levels.settle.Goals as goal

pub loop-done-init : goal.loop-done-init
loop-done-init c = search (settling_start, rules)

pub next_sizes-next-requires : goal.next_sizes-next-requires
next_sizes-next-requires c = search (settling_level, rules)

pub returns-then-eq : goal.returns-then-eq
returns-then-eq c = search (settling_stops, rules)

pub loop-done-preserved : goal.loop-done-preserved
loop-done-preserved c = search (settling_on, rules)

pub returns : goal.returns
returns c = search (settling_ends, rules)
