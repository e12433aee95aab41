use Rattle.common_example.proofs.loops.classes.MeetLoops.{items_start, items_pair, items_on, items_end}
use borrow.Author.Rules.{rules}
use Rattle.common_example.proofs.classes.join_items.Goals as goal

pub loop-i-init : goal.loop-i-init
loop-i-init c = search (items_start, rules)

pub join_pair-requires : goal.join_pair-requires
join_pair-requires c = search (items_pair, rules)

pub loop-i-preserved : goal.loop-i-preserved
loop-i-preserved c = search (items_on, rules)

pub returns : goal.returns
returns c = search (items_end, rules)
