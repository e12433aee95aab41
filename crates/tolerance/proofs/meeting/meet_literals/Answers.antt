use Rattle.tolerance.proofs.nodes.MeetNodes.{met_plain, met_unlike, left_node, right_node, met_own, met_numbers}
use borrow.Author.Rules.{rules}
use Rattle.tolerance.proofs.meeting.meet_literals.Goals as goal

pub returns-then-kind_of-ne-NUMBER : goal.returns-then-kind_of-ne-NUMBER
returns-then-kind_of-ne-NUMBER c = search (met_plain, rules)

pub returns-then-kind_of-ne-NUMBER-2 : goal.returns-then-kind_of-ne-NUMBER-2
returns-then-kind_of-ne-NUMBER-2 c = search (met_unlike, rules)

pub fix-requires : goal.fix-requires
fix-requires c = search (right_node, rules)

pub returns-then-pattern : goal.returns-then-pattern
returns-then-pattern c = search (met_own, rules)

pub join-requires : goal.join-requires
join-requires c = (search (left_node, rules), search (right_node, rules))

pub returns : goal.returns
returns c = search (met_numbers, rules)
