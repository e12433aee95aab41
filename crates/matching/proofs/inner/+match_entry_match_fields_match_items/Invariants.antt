use Rattle.table.specs.Contents.{contents}
use Prim.Native.Nat.{◌+◌, ◌*◌}
use Rattle.matching.proofs.Parts.{TakingItems, TakingFields}
use Rattle.matching.proofs.inner.+match_entry_match_fields_match_items.Given as goal

abbrev pub decreases-match_entry : goal.decreases-match_entry
decreases-match_entry l = 2 * l.rest

abbrev pub decreases-match_fields : goal.decreases-match_fields
decreases-match_fields l = 2 * l.rest + 1

abbrev pub invariant-match_fields-loop-i : goal.invariant-match_fields-loop-i
invariant-match_fields-loop-i l = TakingFields (contents l.tables) l.plan.scratch.now l.plan.links.now.starts l.plan.links.now.entries l.at l.count l.value l.rest l.initial.list l.start l.i l.list

abbrev pub decreases-match_items : goal.decreases-match_items
decreases-match_items l = 2 * l.rest + 1

abbrev pub invariant-match_items-loop-i : goal.invariant-match_items-loop-i
invariant-match_items-loop-i l = TakingItems (contents l.tables) l.plan.scratch.now l.plan.links.now.starts l.plan.links.now.entries l.at l.count l.value l.rest l.initial.list l.start l.from l.i l.list
