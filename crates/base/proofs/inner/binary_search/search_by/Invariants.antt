use Rattle.std.proofs.Common.{length, ◌-◌, ◌≤◌}
use denote.Param.Always.{always_mut}
use Rattle.std.specs.Fn.{ComputesKey}
use Rattle.std.specs.declared.cmp.Ordering.{Ordering}
use Rattle.base.proofs.Search.{Narrowed}
use Rattle.base.proofs.inner.binary_search.search_by.Given as goal

abbrev pub invariant-loop-low : goal.invariant-loop-low
invariant-loop-low g l =
    (l.low ≤ l.high) × (l.high ≤ length l.items) × always_mut g.F.FnMut l.f
    × ((ord : g.row.T.Denot → Ordering) → ComputesKey g.F.FnMut ord l.initial.f → ComputesKey g.F.FnMut ord l.f × Narrowed ord l.items l.low l.high)

abbrev pub decreases-loop-low : goal.decreases-loop-low
decreases-loop-low g l = l.high - l.low
