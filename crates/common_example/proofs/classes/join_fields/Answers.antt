use Rattle.common_example.proofs.loops.classes.MeetLoops.{fields_start, fields_pair, fields_differ, fields_on, fields_end}
use borrow.Author.Rules.{rules}
use Rattle.common_example.proofs.classes.join_fields.Goals as goal

pub loop-i-init : goal.loop-i-init
loop-i-init c = search (fields_start, rules)

pub returns-then-graph-first : goal.returns-then-graph-first
returns-then-graph-first c = search (fields_differ, rules)

pub join_pair-requires : goal.join_pair-requires
join_pair-requires c = search (fields_pair, rules)

pub loop-i-preserved : goal.loop-i-preserved
loop-i-preserved c = search (fields_on, rules)

pub returns : goal.returns
returns c = search (fields_end, rules)
