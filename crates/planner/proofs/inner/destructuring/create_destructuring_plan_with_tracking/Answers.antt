use Rattle.planner.proofs.destructuring.Tracked.{tracked_room, tracked, written_room, laid_room, tracked_steps}
use borrow.Author.Rules.{rules}
use Rattle.planner.proofs.inner.destructuring.create_destructuring_plan_with_tracking.Goals as goal

pub decide-requires : goal.decide-requires
decide-requires c = record { walks = search rules; room = search (written_room, rules) }

pub lay_out-next-requires : goal.lay_out-next-requires
lay_out-next-requires c = record { asks = search (tracked_room, rules); room = search (laid_room, rules) }

pub returns-clause-planned : goal.returns-clause-planned
returns-clause-planned c = search (tracked, rules)

pub returns-clause-counted : goal.returns-clause-counted
returns-clause-counted c = tracked_steps _ _ _ _ _ c.requires c.decide.ensures.bound c.decide.ensures.counted c.lay_out-next.ensures.counted
