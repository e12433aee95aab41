use Rattle.common_example.proofs.loops.graph.GraphLoops.{part_zero, part_name, part_unmarked, part_kind, part_asks, part_start, part_count}
use borrow.Author.Rules.{rules}
use Rattle.common_example.proofs.graph.words.head_part.Goals as goal

pub returns-then-node-eq0 : goal.returns-then-node-eq0
returns-then-node-eq0 c = search (part_zero, rules)

pub returns-then-side-gt1 : goal.returns-then-side-gt1
returns-then-side-gt1 c = search (part_name, rules)

pub returns-then-marks-node-ne1 : goal.returns-then-marks-node-ne1
returns-then-marks-node-ne1 c = search (part_unmarked, rules)

pub returns-then-k-eq0 : goal.returns-then-k-eq0
returns-then-k-eq0 c = search (part_kind, rules)

pub head_start-requires : goal.head_start-requires
head_start-requires c = search part_asks

pub returns-then-k-eq1 : goal.returns-then-k-eq1
returns-then-k-eq1 c = search (part_start, rules)

pub returns : goal.returns
returns c = search (part_count, rules)
