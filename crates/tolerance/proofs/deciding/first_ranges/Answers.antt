use Rattle.tolerance.proofs.nodes.Beginning.{ranges_start, ranges_node, ranges_on, ranges_end}
use borrow.Author.Rules.{rules}
use Rattle.tolerance.proofs.deciding.first_ranges.Goals as goal

pub loop-n-init : goal.loop-n-init
loop-n-init c = search (ranges_start, rules)

pub overflow_cast-n : goal.overflow_cast-n
overflow_cast-n c = search (ranges_node, rules)

pub loop-n-preserved : goal.loop-n-preserved
loop-n-preserved c = search (ranges_on, rules)

pub returns : goal.returns
returns c = search (ranges_end, rules)
