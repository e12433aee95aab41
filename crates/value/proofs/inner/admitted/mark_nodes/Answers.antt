use Rattle.value.proofs.Marking.{nodes_start, node_asks, node_room, nodes_on, nodes_end}
use borrow.Author.Rules.{rules}
use Rattle.value.proofs.inner.admitted.mark_nodes.Goals as goal

pub loop-n-init : goal.loop-n-init
loop-n-init c = search (nodes_start, rules)

pub admits-ok-requires : goal.admits-ok-requires
admits-ok-requires c = search (node_asks, rules)

pub bounds-marks-n : goal.bounds-marks-n
bounds-marks-n c = search (node_room, rules)

pub loop-n-preserved : goal.loop-n-preserved
loop-n-preserved c = search (nodes_on, rules)

pub returns : goal.returns
returns c = search (nodes_end, rules)
